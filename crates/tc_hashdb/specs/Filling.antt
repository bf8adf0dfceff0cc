-- When a limit is reached.
use Rattle.std.specs.Prelude.{◌≡◌, ◌⊎◌, ◌++◌, ◌∷◌, ◌+◌, ℕ, ◌^◌, ◌<◌, true, List, length, Some, None}
use Rattle.std.specs.FinMap.{get, keys}
use Rattle.std.proofs.Common.{subst, sym}
use Rattle.tc_base.specs.Files.{Files}
use Rattle.tc_base.specs.Maps.{Map}
use Rattle.tc_base.specs.declared.seq.Pair.{Pair}
use Rattle.tc_space.specs.Changes.{out_of}
use Rattle.tc_space.specs.declared.space.Space.{Ghosts}
use Rattle.hf_head.specs.declared.head.Head.{Head}
use Rattle.hf_head.specs.Heads.{unit}
use Rattle.hf_block.specs.Written.{block_len}
use Rattle.hf_layout.specs.Frees.{Frees}
use Rattle.hf_pool.specs.declared.pool.Pool.{Pool}
use Rattle.hf_pool.specs.Pools.{frees}
use Rattle.hf_tree.specs.Links.{width}
use Rattle.hf_record.specs.Fields.{HasFields}
use Rattle.hf_record.specs.Holding.{HasMap}
use Rattle.hf_record.specs.Moves.{IsRefusedFor}
use Rattle.tc_hash.specs.Creating.{IsNew}
use Rattle.tc_hash.specs.Holding.{IsNumbered}
use Rattle.tc_hash.specs.Keeping.{HasNoBlock}
use Rattle.tc_hash.specs.Packing.{ArePairs, blocks_long}
use Rattle.tc_model.specs.Contents.{Contents, hash}

-- with these bytes, under the head in front of them, a hash file holds this map, and beside it no block is to be had for a record of a key
pub record WantsBlock (limit : ℕ) (bytes : List ℕ) (held : Map) (key value : List ℕ) : Type 0 where
  pub head : Head
  pub fields : HasFields head
  pub none : HasNoBlock limit bytes head held (block_len (width head) key value (unit head))

-- so it is with a map, or with that map without the key, which didn't have this value
pub record WantsKey (limit : ℕ) (bytes : List ℕ) (m : Map) (key value : List ℕ) : Type 0 where
  pub held : Map
  pub kept : (held ≡ m) ⊎ ((held ≡ out_of key m) × (get m key ≡ Some value → ⊥))
  pub wants : WantsBlock limit bytes held key value

-- it is the one whose record wants the block, has nothing, and has another value after than before
pub record IsTakenOut (before after held : Map) (key k : List ℕ) : Type 0 where
  pub own : k ≡ key
  pub none : get held k ≡ None
  pub changes : get before k ≡ get after k → ⊥

-- so it is where each key has what it has before or after, but the one whose record wants the block, which may have nothing where what it has changes; the record is one
-- of those after
pub record WantsRecord (limit : ℕ) (bytes : List ℕ) (before after : Map) : Type 0 where
  pub held : Map
  pub key : List ℕ
  pub value : List ℕ
  pub between : (k : List ℕ) → (get held k ≡ get before k) ⊎ ((get held k ≡ get after k) ⊎ IsTakenOut before after held key k)
  pub there : get after key ≡ Some value
  pub wants : WantsBlock limit bytes held key value

-- the undo log is full, or no block is to be had for this record beside those of a map, in the file as it was brought to where it is kept
abbrev pub FillsKey : {S : Type 0} → Ghosts S → S → Map → List ℕ → List ℕ → Type 0
FillsKey s space held key value = s.log_full space ⊎ (s.brought space × WantsKey (s.limit space 0) (s.now space 0) held key value)

-- the undo log is full, or no block is to be had for a record
abbrev pub FillsBy : ℕ → Type 0 → Type 0 → List ℕ → Map → Map → Type 0
FillsBy limit log_is_full brought bytes before after = log_is_full ⊎ (brought × WantsRecord limit bytes before after)

-- with the limit and the bytes of file 0 as the space stands
abbrev pub FillsMap : {S : Type 0} → Ghosts S → S → Map → Map → Type 0
FillsMap s space before after = FillsBy (s.limit space 0) (s.log_full space) (s.brought space) (s.now space 0) before after

-- one of the records of contents after wanted it
abbrev pub WantsAny : ℕ → List ℕ → Contents → Contents → Type 0
WantsAny limit bytes (hash a before) (hash b after) = WantsRecord limit bytes before after
WantsAny limit bytes _ _ = ⊥

-- the same of contents
abbrev pub FillsWith : ℕ → Type 0 → Type 0 → List ℕ → Contents → Contents → Type 0
FillsWith limit log_is_full brought bytes before after = log_is_full ⊎ (brought × WantsAny limit bytes before after)

abbrev pub Fills : {S : Type 0} → Ghosts S → S → Contents → Contents → Type 0
Fills s space before after = FillsWith (s.limit space 0) (s.log_full space) (s.brought space) (s.now space 0) before after

-- ---- in the large form

-- under this head a file of the records of a map, one behind the other in the order of their keys, has no room for one of them
pub record LacksOne (limit long : ℕ) (head : Head) (held : Map) : Type 0 where
  pub pairs : List Pair
  pub are : ArePairs held (keys held) pairs
  pub before : List Pair
  pub pair : Pair
  pub after : List Pair
  pub parts : pairs ≡ before ++ pair ∷ after
  pub free : Frees
  pub nothing : (q : ℕ) → free q ≡ None
  pub refused : IsRefusedFor head (head.first + blocks_long head before) free limit long (block_len (width head) pair.key pair.value (unit head))

-- with these bytes, under the numbers of the head that stands in front of them, a small hash file holds this map; written anew in the large form with these numbers it
-- has no room for what stands in front of its records, or for one of them
pub record LacksLargeAt (limit long : ℕ) (brought : Type 0) (bytes : List ℕ) (held : Map) : Type 0 where
  pub own : Head
  pub numbers : IsNumbered own bytes
  pub small : own.options ≡ 1 → ⊥
  pub pool : Pool
  pub has : HasMap own pool.size (frees pool) held bytes
  pub head : Head
  pub is_new : IsNew own.kind own.apow own.fpow own.buckets true head
  pub lacks : (limit < head.first) ⊎ ((2 ^ 40 < head.first) ⊎ (brought × LacksOne limit long head held))

abbrev pub LacksLargeWith : ℕ → ℕ → Type 0 → List ℕ → Contents → Type 0
LacksLargeWith limit long brought bytes (hash a held) = LacksLargeAt limit long brought bytes held
LacksLargeWith limit long brought bytes _ = ⊥

-- with the bytes that file 0 had as the call began, and the length that it has now
abbrev pub LacksLarge : {S : Type 0} → Ghosts S → S → S → Contents → Type 0
LacksLarge s old space c = LacksLargeWith (s.limit space 0) (length (s.now space 0)) (s.brought space) (s.now old 0) c

-- it looks at the bytes of the call's beginning alone
pub large_from : (limit long : ℕ) (brought : Type 0) (f g : Files) (c : Contents) → f ≡ g → LacksLargeWith limit long brought (g 0) c → LacksLargeWith limit long brought (f 0) c
large_from limit long brought f g c same lacks = subst (λ (files : Files). LacksLargeWith limit long brought (files 0) c) (sym same) lacks
