-- The blocks of a file, and which of them a pool has as free.
use Rattle.std.specs.Prelude.{◌≡◌, ℕ, ◌+◌, ◌≤◌, ◌==◌, ◌⊎◌, List, [], ◌∷◌, length, Option, Some, None, if◌then◌else◌}
use Rattle.hf_block.specs.Pieces.{Record, Piece, held, free, size_of, IsSize, AreBlocks}
use Rattle.hf_block.specs.Walks.{between}
use Rattle.hf_layout.specs.Frees.{Frees, MeetsNone, without}

-- the block that begins at a place, where the first begins at this one
abbrev pub piece_at : ℕ → List Piece → ℕ → Option Piece
piece_at at [] q = None
piece_at at (p ∷ ps) q = if q == at then Some p else piece_at (at + size_of p) ps q

abbrev pub record_of : Option Piece → Option Record
record_of None = None
record_of (Some (held r)) = Some r
record_of (Some (free size tail)) = None

abbrev pub free_of : Option Piece → Option ℕ
free_of None = None
free_of (Some (held r)) = None
free_of (Some (free size tail)) = Some (size_of (free size tail))

-- the record that begins at a place
abbrev pub record_at : ℕ → List Piece → ℕ → Option Record
record_at first pieces q = record_of (piece_at first pieces q)

-- each record's chains have that many bytes
abbrev pub HaveWidth : ℕ → ℕ → List Piece → Type 0
HaveWidth wide first pieces = (q : ℕ) (r : Record) → record_at first pieces q ≡ Some r → r.wide ≡ wide

-- the free blocks among them
abbrev pub frees_of : ℕ → List Piece → Frees
frees_of first pieces q = free_of (piece_at first pieces q)

-- what is there is the pool's or lent out, and never both
abbrev pub IsShared : Option ℕ → Option ℕ → Option ℕ → Type 0
IsShared there pool lent = ((pool ≡ there) × (lent ≡ None)) ⊎ ((pool ≡ None) × (lent ≡ there))

-- from one place up to another stand whole blocks, and the free ones are those of a pool and those that are lent out
pub record LaidOut (unit first end : ℕ) (pieces : List Piece) (frees lent : Frees) (bytes : List ℕ) : Type 0 where
  pub room : 5 ≤ unit
  pub on : first ≤ end
  pub within : end ≤ length bytes
  pub filled : AreBlocks unit (between first end bytes) pieces
  pub shared : (q : ℕ) → IsShared (frees_of first pieces q) (frees q) (lent q)

-- so it is again, and each record stays
pub record Keeps (unit first end : ℕ) (old : List Piece) (frees lent : Frees) (bytes : List ℕ) : Type 0 where
  pub pieces : List Piece
  pub is : LaidOut unit first end pieces frees lent bytes
  pub records : (q : ℕ) → record_at first pieces q ≡ record_at first old q

-- a block is free again: it is no record any more, nor lent out, and each other record stays
pub record TakesBack (unit first end : ℕ) (old : List Piece) (frees lent : Frees) (place : ℕ) (bytes : List ℕ) : Type 0 where
  pub pieces : List Piece
  pub is : LaidOut unit first end pieces frees (without lent place) bytes
  pub records : (q : ℕ) → record_at first pieces q ≡ (if q == place then None else record_at first old q)

-- a whole block of that size begins there
abbrev pub HasBlock : ℕ → List Piece → ℕ → ℕ → Type 0
HasBlock first pieces place size = (p : Piece) × (piece_at first pieces place ≡ Some p) × (size_of p ≡ size)

-- no record has a byte of that range
abbrev pub MeetsNoRecord : ℕ → List Piece → ℕ → ℕ → Type 0
MeetsNoRecord first pieces place size = (q : ℕ) (r : Record) → record_at first pieces q ≡ Some r → (q + size_of (held r) ≤ place) ⊎ (place + size ≤ q)

-- a record was written: it stands there, and each other record stays
pub record Writes (unit first end : ℕ) (old : List Piece) (frees lent : Frees) (place : ℕ) (r : Record) (bytes : List ℕ) : Type 0 where
  pub pieces : List Piece
  pub is : LaidOut unit first end pieces frees lent bytes
  pub records : (q : ℕ) → record_at first pieces q ≡ (if q == place then Some r else record_at first old q)

-- a whole block stands there, inside the blocks; where it isn't the pool's it meets no free block of the pool
pub record Stands (unit first end place size : ℕ) (frees : Frees) : Type 0 where
  pub sized : IsSize unit size
  pub low : first ≤ place
  pub high : place + size ≤ end
  pub apart : frees place ≡ None → MeetsNone frees place size
