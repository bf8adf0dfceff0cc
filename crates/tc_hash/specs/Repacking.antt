-- Files packed, by the files that they were.
use Rattle.std.specs.Prelude.{◌≡◌, ◌⊎◌, ℕ, true, List, length}
use Rattle.std.specs.FinMap.{get}
use Rattle.tc_base.specs.Maps.{Map}
use Rattle.tc_base.specs.declared.kind.Form.{Form}
use Rattle.tc_base.specs.declared.kind.Form.TheVariants as form
use Rattle.hf_head.specs.declared.head.Head.{Head}
use Rattle.hf_block.specs.Pieces.{Piece}
use Rattle.hf_pool.specs.declared.pool.Pool.{Pool}
use Rattle.hf_pool.specs.Pools.{frees}
use Rattle.hf_tree.specs.Links.{HasBlocks}
use Rattle.hf_tree.specs.Standing.{StandsFor}
use Rattle.hf_record.specs.declared.body.Body.{Body}
use Rattle.hf_record.specs.Holding.{Has, HasMap}
use Rattle.tc_hash.specs.declared.hash.Hash.{Hash}
use Rattle.tc_hash.specs.Creating.{IsNew}
use Rattle.tc_hash.specs.Holding.{IsNumbered}
use Rattle.tc_hash.specs.Packing.{FillsFront, FillsLeast, IsPacked, IsTight}

-- the head of a file has these numbers, and from its first block's place on these blocks stand in it
pub record HasPieces (h : Head) (ps : List Piece) (bytes : List ℕ) : Type 0 where
  pub numbers : IsNumbered h bytes
  pub end : ℕ
  pub blocks : HasBlocks h end ps bytes

-- the blocks of the records of a file fill another with its numbers up to an end, as they are and in the order that they had, but for their chains
pub record MovesFrom (h : Head) (end : ℕ) (from bytes : List ℕ) : Type 0 where
  pub pieces : List Piece
  pub was : HasPieces h pieces from
  pub fills : FillsFront h end pieces bytes

-- a file has the head of one that is made anew in the large form with the numbers of another, which was small. Up to an end the records of the map that the other held fill it in
-- their least blocks, and it holds that map
pub record EnlargesFrom (f : Form) (h : Head) (end : ℕ) (stands : Map → Type 0) (from : List ℕ) : Type 0 where
  pub asked : f ≡ form.Large
  pub own : Head
  pub was : IsNumbered own from
  pub small : own.options ≡ 1 → ⊥
  pub is_new : IsNew own.kind own.apow own.fpow own.buckets true h
  pub map : Map
  pub pool : Pool
  pub had : HasMap own pool.size (frees pool) map from
  pub stand : stands map
  pub fills : FillsLeast h end map

-- one or the other
abbrev pub FillsFrom : Form → Head → ℕ → (Map → Type 0) → List ℕ → List ℕ → Type 0
FillsFrom f h end stands from bytes = MovesFrom h end from bytes ⊎ EnlargesFrom f h end stands from

-- a file whose records are held open was packed in a form from one with the first bytes, and has the others
pub record IsTightFrom (from : List ℕ) (f : Form) (b : Body) (bytes : List ℕ) : Type 0 where
  pub tight : IsTight f b
  pub fills : FillsFrom f b.head b.pool.size (λ m. Has b bytes m) from bytes

-- so was a hash file
abbrev pub WasPacked : {S : Type 0} → Hash S → List ℕ → Form → List ℕ → Type 0
WasPacked h from f bytes = IsTightFrom from f h.body bytes

-- a packed file of this form, which the records that another had fill up to its end
pub record IsPackedFrom (from : List ℕ) (f : Form) (bytes : List ℕ) : Type 0 where
  pub packed : IsPacked f bytes
  pub head : Head
  pub numbers : IsNumbered head bytes
  pub fills : FillsFrom f head (length bytes) (λ m. StandsFor head.kind bytes (get m)) from bytes
