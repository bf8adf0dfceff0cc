-- A file packed: written anew in the large form, or in the form that it has.
use Rattle.std.specs.Prelude.{◌≡◌, ◌⊎◌, ℕ, ◌+◌, ◌^◌, ◌<◌, true, false, List, [], ◌∷◌, ◌++◌, length, map, take, Option, Some, None}
use Rattle.std.specs.FinMap.{empty, get, insert, keys}
use Rattle.tc_base.specs.Maps.{Map}
use Rattle.tc_base.specs.declared.kind.Form.{Form}
use Rattle.tc_base.specs.declared.kind.Form.TheVariants as form
use Rattle.tc_base.specs.declared.seq.Pair.{Pair}
use Rattle.tc_space.specs.declared.space.Space.{Ghosts}
use Rattle.hf_head.specs.declared.head.Head.{Head}
use Rattle.hf_head.specs.Heads.{head_in, sections, unit}
use Rattle.hf_block.specs.Pieces.{Piece}
use Rattle.hf_block.specs.Written.{block_len}
use Rattle.hf_layout.specs.Frees.{Frees}
use Rattle.hf_layout.specs.Layout.{frees_of, record_at}
use Rattle.hf_pack.specs.Moving.{Repacked, moved, records_long}
use Rattle.hf_pool.specs.Pools.{frees}
use Rattle.hf_tree.specs.Links.{HasBlocks, links_of, width}
use Rattle.hf_tree.specs.Keys.{Key}
use Rattle.hf_tree.specs.Standing.{AllHang}
use Rattle.tc_hash.specs.declared.hash.Hash.{Hash}
use Rattle.tc_hash.specs.Creating.{IsNew}
use Rattle.tc_hash.specs.Keeping.{CanCall, KeepsHead, Means, SameMap, ShowsRegion, Turns}
use Rattle.hf_record.specs.declared.body.Body.{Body}
use Rattle.hf_record.specs.Moves.{IsRefusedFor}

-- no free block is left, and this is the form of the file
pub record Packs {S : Type 0} (options : ℕ) (h : Hash S) : Type 0 where
  pub nothing : (q : ℕ) → frees h.body.pool q ≡ None
  pub options_is : h.body.head.options ≡ options

-- of this form, with no free block
pub record IsTight (f : Form) (b : Body) : Type 0 where
  pub nothing : (q : ℕ) → frees b.pool q ≡ None
  pub large : f ≡ form.Large → b.head.options ≡ 1

-- a file of this form that has just the size that its head says, and whose blocks are all those of records
pub record IsPacked (f : Form) (bytes : List ℕ) : Type 0 where
  pub head : Head
  pub pieces : List Piece
  pub in_front : head_in (take 256 bytes) ≡ head
  pub long : length bytes ≡ head.size
  pub blocks : HasBlocks head head.size pieces bytes
  pub none_free : (q : ℕ) → frees_of head.first pieces q ≡ None
  pub large : f ≡ form.Large → head.options ≡ 1

-- a file that has just the size that its head says, at whose end no block is free
pub record EndsInRecord (bytes : List ℕ) : Type 0 where
  pub head : Head
  pub pieces : List Piece
  pub in_front : head_in (take 256 bytes) ≡ head
  pub long : length bytes ≡ head.size
  pub blocks : HasBlocks head head.size pieces bytes
  pub last : (q t : ℕ) → frees_of head.first pieces q ≡ Some t → q + t ≡ head.size → 0 < t → ⊥

-- the file, the region and the count of gets stay, and so do the numbers of the file
pub record StaysNumbered {S : Type 0} (old new : Hash S) : Type 0 where
  pub map : SameMap old new
  pub apow : new.body.head.apow ≡ old.body.head.apow
  pub fpow : new.body.head.fpow ≡ old.body.head.fpow
  pub buckets : new.body.head.buckets ≡ old.body.head.buckets

-- the records of these blocks were moved to the front, and their trees keep their shape
abbrev pub IsRepacked : Head → ℕ → List Piece → List ℕ → List ℕ → Type 0
IsRepacked h end ps before after = (places : Key → Option ℕ) → AllHang (links_of h ps before) (record_at h.first ps) h.buckets places → Repacked h end ps after

-- the form that is asked for
abbrev pub options_for : {S : Type 0} → Form → Hash S → ℕ
options_for form.Keep h = h.body.head.options
options_for form.Large h = 1

-- the blocks of the records among blocks stand in a file from the first block's place on up to an end, as they are and in the order that they had, but for their chains
pub record FillsFront (h : Head) (end : ℕ) (ps : List Piece) (bytes : List ℕ) : Type 0 where
  pub links : ℕ → ℕ
  pub blocks : HasBlocks h end (moved links ps) bytes
  pub ends : end ≡ h.first + records_long ps

-- a file was packed in the form that it has: its head stays, and the blocks of all records were moved to the front
pub record MovesRecords {S : Type 0} (s : Ghosts S) (v v' : Hash S) (old new : S) : Type 0 where
  pub head : v'.body.head ≡ v.body.head
  pub front : KeepsHead s v.body.file old new
  pub blocks : (m : Map) (w : Means s v old m) → FillsFront v.body.head v'.body.pool.size w.1.map.has.pieces (s.now new v.body.file)

-- ---- pairs

-- each key has that value
abbrev pub AllIn : Map → List Pair → Type 0
AllIn m [] = Unit {0}
AllIn m (p ∷ ps) = (get m p.key ≡ Some p.value) × AllIn m ps

-- keys, each with the value that it has
pub record ArePairs (m : Map) (keys : List (List ℕ)) (pairs : List Pair) : Type 0 where
  pub each : AllIn m pairs
  pub keys_are : map (λ p. p.key) pairs ≡ keys

-- the key and the value that it has come behind the others
abbrev pub AddsPair : Map → List ℕ → List Pair → List Pair → Type 0
AddsPair m key old new = (value : List ℕ) × (get m key ≡ Some value) × (new ≡ old ++ record { key = key; value = value } ∷ [])

-- one key after the other is given its value
abbrev pub with_pairs : Map → List Pair → Map
with_pairs m [] = m
with_pairs m (p ∷ ps) = with_pairs (insert m p.key p.value) ps

-- ---- room

-- the bytes of the blocks of pairs
abbrev pub blocks_long : Head → List Pair → ℕ
blocks_long h [] = 0
blocks_long h (p ∷ ps) = block_len (width h) p.key p.value (unit h) + blocks_long h ps

-- the first block's place is the least one behind the sections of a file, the blocks of pairs, each the least one that holds its pair, fill it from there on, and none is free
pub record IsFilledWith {S : Type 0} (h : Hash S) (pairs : List Pair) : Type 0 where
  pub nothing : (q : ℕ) → frees h.body.pool q ≡ None
  pub least : h.body.head.first < sections h.body.head + unit h.body.head
  pub ends : h.body.pool.size ≡ h.body.head.first + blocks_long h.body.head pairs

-- the blocks of the pairs of a map, each the least one that holds its pair, fill a file from the first block's place on up to an end
pub record FillsLeast (h : Head) (end : ℕ) (m : Map) : Type 0 where
  pub pairs : List Pair
  pub are : ArePairs m (keys m) pairs
  pub ends : end ≡ h.first + blocks_long h pairs

-- pairs were put into a file that has no free blocks, one after the other: it has none, and ends behind their blocks
pub record PutsPairs {S : Type 0} (s : Ghosts S) (pairs : List Pair) (v v' : Hash S) (old new : S) : Type 0 where
  pub writes : Turns s (λ m. with_pairs m pairs) v v' old new
  pub nothing : (q : ℕ) → frees v'.body.pool q ≡ None
  pub ends : v'.body.pool.size ≡ v.body.pool.size + blocks_long v.body.head pairs
  pub front : KeepsHead s v.body.file old new

-- no block was to be had for a record in a file that has no free blocks and whose blocks end there
pub record LacksEnd {S : Type 0} (s : Ghosts S) (h : Head) (file end : ℕ) (space : S) (key value : List ℕ) : Type 0 where
  pub brought : s.brought space
  pub free : Frees
  pub nothing : (q : ℕ) → free q ≡ None
  pub refused : IsRefusedFor h end free (s.limit space file) (length (s.now space file)) (block_len (width h) key value (unit h))

-- so it was for one of these pairs, behind the blocks of those in front of it, the first of which stands there
pub record LacksOne {S : Type 0} (s : Ghosts S) (h : Head) (file first : ℕ) (space : S) (pairs : List Pair) : Type 0 where
  pub before : List Pair
  pub pair : Pair
  pub after : List Pair
  pub are : pairs ≡ before ++ pair ∷ after
  pub lacks : LacksEnd s h file (first + blocks_long h before) space pair.key pair.value

-- the head of a file without blocks, with the numbers that it has and in the large form
abbrev pub IsLargeOf : {S : Type 0} → Hash S → Head → Type 0
IsLargeOf h new = IsNew h.body.head.kind h.body.head.apow h.body.head.fpow h.body.head.buckets true new

-- it was made so, without records
pub record MakesLarge {S : Type 0} (s : Ghosts S) (v v' : Hash S) (old new : S) : Type 0 where
  pub empties : Turns s (λ m. empty) v v' old new
  pub is_new : IsLargeOf v v'.body.head
  pub nothing : (q : ℕ) → frees v'.body.pool q ≡ None
  pub ends : v'.body.pool.size ≡ v'.body.head.first
  pub region : s.tells → ShowsRegion v' (s.now new v'.body.file)

-- it may be called, and these are the pairs of whatever map is held
pub record MayEnlarge {S : Type 0} (s : Ghosts S) (pairs : List Pair) (h : Hash S) (space : S) : Type 0 where
  pub ready : CanCall s h space
  pub are : (m : Map) → Means s h space m → ArePairs m (keys m) pairs

-- a file was written anew in the large form, with the records that it had in the least blocks
pub record WritesLarge {S : Type 0} (s : Ghosts S) (v v' : Hash S) (old new : S) : Type 0 where
  pub packs : Packs 1 v'
  pub is_new : IsLargeOf v v'.body.head
  pub fills : (m : Map) → Means s v old m → FillsLeast v'.body.head v'.body.pool.size m
  pub region : s.tells → ShowsRegion v' (s.now new v'.body.file)

-- so was a small one, as was asked for
pub record Enlarges {S : Type 0} (f : Form) (s : Ghosts S) (v v' : Hash S) (old new : S) : Type 0 where
  pub asked : f ≡ form.Large
  pub small : v.body.head.options ≡ 1 → ⊥
  pub writes : WritesLarge s v v' old new

-- a file was packed, by moving its records or written anew: no free block is left, it has the form that is asked for, and its head shows the region as before
pub record PacksAs {S : Type 0} (f : Form) (s : Ghosts S) (v v' : Hash S) (old new : S) : Type 0 where
  pub packs : Packs (options_for f v) v'
  pub fills : MovesRecords s v v' old new ⊎ Enlarges f s v v' old new
  pub region : s.tells → ShowsRegion v (s.now old v.body.file) → ShowsRegion v' (s.now new v'.body.file)

-- the sections of a file made anew in the large form pass the file's limit, or what a head can name
pub record LacksSections {S : Type 0} (s : Ghosts S) (h : Hash S) (space : S) : Type 0 where
  pub head : Head
  pub is_new : IsLargeOf h head
  pub lacks : (s.limit space h.body.file < head.first) ⊎ (2 ^ 40 < head.first)

-- a file made anew in the large form had no room for one of the records of a map that is held, which are written in the order of their keys
pub record LacksRecord {S : Type 0} (s : Ghosts S) (h : Hash S) (old new : S) : Type 0 where
  pub head : Head
  pub is_new : IsLargeOf h head
  pub pairs : List Pair
  pub are : (m : Map) → Means s h old m → ArePairs m (keys m) pairs
  pub one : LacksOne s head h.body.file head.first new pairs

-- a file written anew in the large form had no room
abbrev pub LacksAnew : {S : Type 0} → Ghosts S → Hash S → S → S → Type 0
LacksAnew s h old new = LacksSections s h new ⊎ LacksRecord s h old new

-- so it was of a small one: the blocks of a large one are moved
pub record LacksLarge {S : Type 0} (s : Ghosts S) (h : Hash S) (old new : S) : Type 0 where
  pub small : h.body.head.options ≡ 1 → ⊥
  pub anew : LacksAnew s h old new

-- a packing had none, in the form that a file has only since the undo log is full
abbrev pub LacksPacking : {S : Type 0} → Form → Ghosts S → Hash S → S → S → Type 0
LacksPacking f s h old new = s.log_full new ⊎ ((f ≡ form.Large) × LacksLarge s h old new)

-- the space may not be used any more, or the head is what it was
abbrev pub LeavesHead : {S : Type 0} → Ghosts S → Hash S → Hash S → S → Type 0
LeavesHead s v v' new = (s.flag new ≡ false) ⊎ (v'.body.head ≡ v.body.head)
