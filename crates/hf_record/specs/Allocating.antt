-- The block of a record that is put: where the key's record stood and stands, and what becomes of the free blocks.
use Rattle.std.specs.Prelude.{◌≡◌, ◌⊎◌, ℕ, ◌+◌, ◌-◌, ◌<◌, ◌≤◌, List, length, replicate, Option, Some, None}
use Rattle.std.specs.FinMap.{get}
use Rattle.tc_base.specs.Maps.{Map}
use Rattle.hf_head.specs.declared.head.Head.{Head}
use Rattle.hf_block.specs.Pieces.{Record, held, size_of}
use Rattle.hf_layout.specs.Frees.{Frees}
use Rattle.hf_layout.specs.Layout.{record_at}
use Rattle.hf_tree.specs.Keys.{Key}
use Rattle.hf_pool.specs.declared.pool.Pool.{Pool}
use Rattle.hf_pool.specs.Pools.{frees, Takes}
use Rattle.hf_record.specs.Holding.{HasMap}
use Rattle.hf_record.specs.Moves.{Gives}

-- a map is held, and the record of a key stands there, in a block of so many bytes
pub record HoldsAt (h : Head) (end : ℕ) (free : Frees) (m : Map) (key : Key) (at size : ℕ) (bytes : List ℕ) : Type 0 where
  pub has : HasMap h end free m bytes
  pub r : Record
  pub there : record_at h.first has.pieces at ≡ Some r
  pub key_is : r.key ≡ key
  pub size_is : size_of (held r) ≡ size

-- so it does, and the padding of its block is zeros
pub record HoldsWritten (h : Head) (end : ℕ) (free : Frees) (m : Map) (key : Key) (at size : ℕ) (bytes : List ℕ) : Type 0 where
  pub holds : HoldsAt h end free m key at size bytes
  pub padded : holds.r.pad ≡ replicate (length holds.r.pad) 0

-- the place of a key's record in a map that is held, and the bytes of its block; none where the key isn't held
abbrev pub Stands : Head → ℕ → Frees → Map → Key → List ℕ → Option (ℕ × ℕ) → Type 0
Stands h end free m key bytes None = get m key ≡ None
Stands h end free m key bytes (Some is) = HoldsAt h end free m key is.0 is.1 bytes

-- a block keeps so many bytes at its front, and what is left over goes back
pub record Shortens (size place found : ℕ) (old new : Pool) : Type 0 where
  pub end : new.size ≡ old.size
  pub whole : found ≤ size → (q : ℕ) → frees new q ≡ frees old q
  pub rest : size < found → Gives (place + size) (found - size) old new

-- the block that the key's record had is large enough, and stays
pub record Stays (size place : ℕ) (was : ℕ × ℕ) (old new : Pool) : Type 0 where
  pub enough : size ≤ was.1
  pub same : place ≡ was.0
  pub shortens : Shortens size was.0 was.1 old new

-- it isn't: it goes back first, and another is taken
pub record Moves (most size place : ℕ) (was : ℕ × ℕ) (old new : Pool) : Type 0 where
  pub few : was.1 < size
  pub middle : Pool
  pub gives : Gives was.0 was.1 old middle
  pub takes : Takes most middle new size place

-- the block of a put's record, by the one that the key's record had, if it had one; a free block is taken only where it begins below a place
abbrev pub Allocates : ℕ → ℕ → ℕ → Option (ℕ × ℕ) → Pool → Pool → Type 0
Allocates most size place None old new = Takes most old new size place
Allocates most size place (Some was) old new = Stays size place was old new ⊎ Moves most size place was old new
