-- What the calls of a pool do.
use Rattle.std.specs.Prelude.{◌≡◌, ◌⊎◌, ℕ, ◌+◌, ◌-◌, ◌%◌, ◌^◌, ◌<◌, ◌≤◌, ◌==◌, false, List, length, if◌then◌else◌}
use Rattle.std.proofs.Common.{refl}
use Rattle.tc_space.specs.Effects.{Changes}
use Rattle.tc_space.specs.Frames.{Others}
use Rattle.tc_space.specs.Ranges.{IsDataFile, Passes}
use Rattle.tc_space.specs.declared.space.Space.{Ghosts}
use Rattle.hf_pool.specs.declared.pool.Pool.{Pool}
use Rattle.hf_block.specs.declared.block.BlockAt.{BlockAt}
use Rattle.hf_block.specs.Pieces.{AreBlocks, Piece, placed}
use Rattle.hf_block.specs.Rows.{HaveSameFree}
use Rattle.hf_block.specs.Walks.{between}
use Rattle.hf_layout.specs.Frees.{Frees, IsBest, HasNone, LieInside, MeetsNone, none, with_block, without}
use Rattle.hf_layout.specs.Layout.{LaidOut, Keeps, TakesBack, HasBlock, MeetsNoRecord}
use Rattle.hf_pool.specs.Indexing.{found_in}
use Rattle.hf_pool.specs.Joins.{GivesBack}
use Rattle.hf_pool.specs.Marks.{marked, parted}

-- the free blocks
abbrev pub frees : Pool → Frees
frees pool = found_in pool.index

-- the space may be used, and the free blocks lie in a data file where its bytes are told
pub record HoldsFrees {S : Type 0} (s : Ghosts S) (space : S) (file : ℕ) (free : Frees) : Type 0 where
  pub sound : s.sound space
  pub data_file : IsDataFile file
  pub inside : s.tells → LieInside free (length (s.now space file))

-- a block of that size may be taken: it has bytes, whole units of them, and where none is free that is large enough, the new end is a number of 64 bits
pub record MayTake (pool : Pool) (size : ℕ) : Type 0 where
  pub some : 0 < size
  pub aligned : size % pool.unit ≡ 0
  pub fits : pool.size + size < 2 ^ 64

-- a block may be given back: it has a block's size, lies in front of the end, in whole units, and meets no free block
pub record MayGive (pool : Pool) (at size : ℕ) : Type 0 where
  pub some : 0 < size
  pub below : size < 2 ^ 32
  pub within : at + size ≤ pool.size
  pub aligned : (at % pool.unit ≡ 0) × (size % pool.unit ≡ 0)
  pub apart : MeetsNone (frees pool) at size

-- the front of a free block was taken in memory, and what is left over stays free
pub record Parts (old new : Pool) (size place found : ℕ) : Type 0 where
  pub left : (q : ℕ) → frees new q ≡ (if found == size then without (frees old) place q else with_block (without (frees old) place) (place + size) (found - size) q)
  pub end : new.size ≡ old.size
  pub unit : new.unit ≡ old.unit

-- a free block that begins below a place was large enough: the best is taken, and what is left over stays free
pub record TakesFree (most : ℕ) (old new : Pool) (size place found : ℕ) : Type 0 where
  pub best : IsBest (frees old) most size place found
  pub left : (q : ℕ) → frees new q ≡ (if found == size then without (frees old) place q else with_block (without (frees old) place) (place + size) (found - size) q)
  pub end : new.size ≡ old.size
  pub unit : new.unit ≡ old.unit

-- no free block was large enough: the block stands at the end, and the size grows by it alone
pub record Grows (most : ℕ) (old new : Pool) (size place : ℕ) : Type 0 where
  pub none : HasNone (frees old) most size
  pub at : place ≡ old.size
  pub end : new.size ≡ old.size + size
  pub same : (q : ℕ) → frees new q ≡ frees old q
  pub unit : new.unit ≡ old.unit
  pub noted : new.changed ≡ old.changed

-- either way
abbrev pub Takes : ℕ → Pool → Pool → ℕ → ℕ → Type 0
Takes most old new size place = ((found : ℕ) × TakesFree most old new size place found) ⊎ Grows most old new size place

-- the unit stays, and where no change of free blocks is noted there was none, neither now nor before
pub record Notes (old new : Pool) : Type 0 where
  pub unit : new.unit ≡ old.unit
  pub kept : new.changed ≡ false → old.changed ≡ false
  pub same : new.changed ≡ false → (q : ℕ) → frees new q ≡ frees old q

pub notes_refl : (a : Pool) → Notes a a
notes_refl a = record { unit = refl; kept = λ no. no; same = λ no q. refl }

-- what taking a block does to the bytes: the head of what is left over is written, and nothing where the block is taken whole or stands at the end
pub record IsTaken (most : ℕ) (old : Frees) (size place : ℕ) (bytes bytes' : List ℕ) : Type 0 where
  pub parts : (found : ℕ) → IsBest old most size place found → bytes' ≡ parted place size found bytes
  pub same : HasNone old most size → bytes' ≡ bytes

-- what taking a block does to the blocks of the file, whatever they are: once it has a head of its own size, which whoever took it writes with its
-- record, it is a block that is lent out
pub record Lends (most unit end : ℕ) (old new : Frees) (size place : ℕ) (bytes bytes' : List ℕ) : Type 0 where
  pub lent : (first last found : ℕ) (pieces : List Piece) (lent : Frees) → LaidOut unit first last pieces old lent bytes → IsBest old most size place found → Keeps unit first last pieces new (with_block lent place size) (marked place size bytes')
  pub beyond : (first last : ℕ) (pieces : List Piece) (lent : Frees) → LaidOut unit first last pieces old lent bytes → HasNone old most size → LaidOut unit first last pieces new lent bytes'
  pub clear : (first last : ℕ) (pieces : List Piece) (lent : Frees) → LaidOut unit first last pieces old lent bytes → last ≤ end → MeetsNoRecord first pieces place size

-- what taking a block does to files: other files stay, and in its own it begins a whole number of units from the front
pub record TakesIn {S : Type 0} (s : Ghosts S) (file most : ℕ) (old new : Pool) (size place : ℕ) (before after : S) : Type 0 where
  pub aligned : place % old.unit ≡ 0
  pub others : Others s (λ g. g ≡ file) before after
  pub bytes : s.tells → IsTaken most (frees old) size place (s.now before file) (s.now after file)
  pub lends : s.tells → Lends most old.unit old.size (frees old) (frees new) size place (s.now before file) (s.now after file)

-- what giving a block back does to the blocks of the file: a block that stands there, or would stand there with a head of that size
pub record GoesBack (unit : ℕ) (old new : Frees) (at size : ℕ) (bytes bytes' : List ℕ) : Type 0 where
  pub block : (first last : ℕ) (pieces : List Piece) (lent : Frees) → LaidOut unit first last pieces old lent bytes → HasBlock first pieces at size → TakesBack unit first last pieces new lent at bytes'
  pub rest : (first last : ℕ) (pieces : List Piece) (lent : Frees) → LaidOut unit first last pieces old lent (marked at size bytes) → HasBlock first pieces at size → TakesBack unit first last pieces new lent at bytes'

module _ {S : Type 0} (s : Ghosts S) where
  -- the head of what is left over of the best block passes a limit
  abbrev pub LacksRoomToPart : ℕ → Pool → ℕ → ℕ → S → S → Type 0
  LacksRoomToPart most pool size file before after = (place : ℕ) × (found : ℕ) × IsBest (frees pool) most size place found × (size < found) × Passes (s.limit before file) (s.log_full after) (place + size) 5

  -- a block was given back, and its head written
  abbrev pub GivesIn : ℕ → Pool → Pool → ℕ → ℕ → S → S → Type 0
  GivesIn file old new at size before after = (start : ℕ) × (total : ℕ) × GivesBack (frees old) (frees new) at size start total × (s.tells → Changes s.now file (marked start total (s.now before file)) before after)

  abbrev pub GoesBackIn : ℕ → Pool → Pool → ℕ → ℕ → S → S → Type 0
  GoesBackIn file old new at size before after = GoesBack old.unit (frees old) (frees new) at size (s.now before file) (s.now after file)

  -- the head of a block given back passes a limit
  abbrev pub LacksRoomToGive : ℕ → Pool → Pool → ℕ → ℕ → S → S → Type 0
  LacksRoomToGive file old new at size before after = (start : ℕ) × (total : ℕ) × GivesBack (frees old) (frees new) at size start total × Passes (s.limit before file) (s.log_full after) start 5

-- blocks that are laid out up to the old end are so up to the new one
abbrev pub KeepsLaid : Pool → Pool → Type 0
KeepsLaid old new = (first : ℕ) (pieces : List Piece) (lent : Frees) (bytes : List ℕ) → LaidOut old.unit first old.size pieces (frees old) lent bytes → Keeps old.unit first new.size pieces (frees new) lent bytes

-- blocks of a file of which the free ones were listed are laid out
abbrev pub IsLaidOut : ℕ → ℕ → ℕ → List BlockAt → Pool → Type 0
IsLaidOut unit first size blocks pool = (pieces : List Piece) (bytes : List ℕ) → size ≤ length bytes → AreBlocks unit (between first size bytes) pieces → HaveSameFree blocks (placed first pieces) → LaidOut unit first size pieces (frees pool) none bytes
