-- What records written into a file make of its blocks.
use Rattle.std.specs.Prelude.{◌≡◌, ℕ, ◌+◌, ◌-◌, ◌%◌, ◌^◌, ◌<◌, ◌≤◌, List, length, take, drop, Some, None}
use Rattle.tc_base.specs.Files.{wrote}
use Rattle.tc_base.specs.Endian.{le_bytes}
use Rattle.hf_block.specs.Heads.{free_head}
use Rattle.hf_block.specs.Pieces.{Record, Piece, held, spell, size_of, IsWhole, AllHaveWidth}
use Rattle.hf_layout.specs.Frees.{Frees, IsThere, LieInside, with_block, without}
use Rattle.hf_layout.specs.Layout.{LaidOut, HasBlock, HaveWidth, Stands, Writes, record_at}

-- a record may be written over a block of that size, or its front: the record is whole, and the block isn't the pool's, but lent out or a record before
pub record MayStand (unit first : ℕ) (pieces : List Piece) (frees : Frees) (place size : ℕ) (r : Record) : Type 0 where
  pub whole : IsWhole unit (held r)
  pub block : HasBlock first pieces place size
  pub unpooled : frees place ≡ None

-- a record over a whole block of its size
abbrev pub FillsBlock : Type 0
FillsBlock =
    (unit first end place : ℕ) (pieces : List Piece) (frees lent : Frees) (bytes : List ℕ) (r : Record) → LaidOut unit first end pieces frees lent bytes → MayStand unit first pieces frees place (size_of (held r)) r
    → Writes unit first end pieces frees (without lent place) place r (wrote place (spell (held r)) bytes)

-- a record over the front of a larger one: the rest, once it has its head, is a free block lent out
abbrev pub FillsFront : Type 0
FillsFront =
    (unit first end place size : ℕ) (pieces : List Piece) (frees lent : Frees) (bytes : List ℕ) (r : Record) → LaidOut unit first end pieces frees lent bytes → MayStand unit first pieces frees place size r → size_of (held r) < size
    → Writes unit first end pieces frees (with_block (without lent place) (place + size_of (held r)) (size - size_of (held r))) place r (wrote (place + size_of (held r)) (free_head (size - size_of (held r))) (wrote place (spell (held r)) bytes))

-- a record behind all blocks
abbrev pub StandsBehind : Type 0
StandsBehind =
    (unit first end : ℕ) (pieces : List Piece) (frees lent : Frees) (bytes : List ℕ) (r : Record) → LaidOut unit first end pieces frees lent bytes → IsWhole unit (held r)
    → Writes unit first (end + size_of (held r)) pieces frees lent end r (wrote end (spell (held r)) bytes)

-- what is lent out is a block of the file
abbrev pub LentIsBlock : Type 0
LentIsBlock = (unit first end place size : ℕ) (pieces : List Piece) (frees lent : Frees) (bytes : List ℕ) → LaidOut unit first end pieces frees lent bytes → lent place ≡ Some size → HasBlock first pieces place size

-- what a block of the file is to the pool
abbrev pub BlockStands : Type 0
BlockStands = (unit first end place size : ℕ) (pieces : List Piece) (frees lent : Frees) (bytes : List ℕ) → LaidOut unit first end pieces frees lent bytes → HasBlock first pieces place size → Stands unit first end place size frees

-- a record is a block of the file that is neither the pool's nor lent out
abbrev pub RecordIsBlock : Type 0
RecordIsBlock = (unit first end place : ℕ) (pieces : List Piece) (frees lent : Frees) (bytes : List ℕ) (r : Record) → LaidOut unit first end pieces frees lent bytes → record_at first pieces place ≡ Some r → HasBlock first pieces place (size_of (held r)) × (frees place ≡ None) × (lent place ≡ None)

-- the pool's free blocks lie in the file
abbrev pub PoolLiesInside : Type 0
PoolLiesInside = (unit first end : ℕ) (pieces : List Piece) (frees lent : Frees) (bytes : List ℕ) → LaidOut unit first end pieces frees lent bytes → LieInside frees (length bytes)

-- a record's bytes stand at its place
abbrev pub RecordHasBytes : Type 0
RecordHasBytes = (unit first end place : ℕ) (pieces : List Piece) (frees lent : Frees) (bytes : List ℕ) (r : Record) → LaidOut unit first end pieces frees lent bytes → record_at first pieces place ≡ Some r → take (size_of (held r)) (drop place bytes) ≡ spell (held r)

-- the bytes of its left chain written: the record has another left chain, and that is all
abbrev pub SetsLeft : Type 0
SetsLeft =
    (unit first end place x : ℕ) (pieces : List Piece) (frees lent : Frees) (bytes : List ℕ) (r : Record) → LaidOut unit first end pieces frees lent bytes → record_at first pieces place ≡ Some r → x < 256 ^ r.wide
    → Writes unit first end pieces frees lent place (record r { left = x }) (wrote (place + 2) (le_bytes r.wide x) bytes)

abbrev pub SetsRight : Type 0
SetsRight =
    (unit first end place x : ℕ) (pieces : List Piece) (frees lent : Frees) (bytes : List ℕ) (r : Record) → LaidOut unit first end pieces frees lent bytes → record_at first pieces place ≡ Some r → x < 256 ^ r.wide
    → Writes unit first end pieces frees lent place (record r { right = x }) (wrote (place + 2 + r.wide) (le_bytes r.wide x) bytes)

-- a free block of the pool is a block of the file
abbrev pub FreeIsBlock : Type 0
FreeIsBlock = (unit first end place size : ℕ) (pieces : List Piece) (frees lent : Frees) (bytes : List ℕ) → LaidOut unit first end pieces frees lent bytes → IsThere frees place size → HasBlock first pieces place size

-- a block's place is a multiple of the unit, as the first one's is
abbrev pub PlacesAreAligned : Type 0
PlacesAreAligned = (unit first end place size : ℕ) (pieces : List Piece) (frees lent : Frees) (bytes : List ℕ) → LaidOut unit first end pieces frees lent bytes → first % unit ≡ 0 → HasBlock first pieces place size → place % unit ≡ 0

-- what is written from the first block on leaves the bytes before it
abbrev pub FrontStays : Type 0
FrontStays = (first place : ℕ) (x bytes : List ℕ) → first ≤ place → place ≤ length bytes → take first (wrote place x bytes) ≡ take first bytes

-- records whose blocks were listed in one form have its chains
abbrev pub ListedHaveWidth : Type 0
ListedHaveWidth = (wide first : ℕ) (pieces : List Piece) → AllHaveWidth wide pieces → HaveWidth wide first pieces
