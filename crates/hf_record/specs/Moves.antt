-- The steps of a put and of an out.
use Rattle.std.specs.Prelude.{◌≡◌, ◌⊎◌, ℕ, ◌+◌, ◌^◌, ◌≤◌, ◌<◌, ◌%◌, List, length, Some, None, if◌then◌else◌, ◌==◌, take}
use Rattle.tc_space.specs.Frames.{Brought}
use Rattle.tc_space.specs.declared.space.Space.{Ghosts}
use Rattle.hf_head.specs.declared.head.Head.{Head}
use Rattle.hf_block.specs.Pieces.{Record, Piece, IsSize, IsWhole, held, spell, size_of}
use Rattle.hf_layout.specs.Frees.{Frees, MeetsNone, none}
use Rattle.hf_layout.specs.Layout.{record_at, HasBlock, LaidOut}
use Rattle.hf_chain.specs.Heads.{HasRecord}
use Rattle.hf_pool.specs.declared.pool.Pool.{Pool}
use Rattle.hf_pool.specs.Joins.{GivesBack}
use Rattle.hf_pool.specs.Marks.{marked}
use Rattle.hf_pool.specs.Pools.{frees}
use Rattle.hf_record.specs.declared.body.Body.{Body}
use Rattle.hf_record.specs.Filling.{IsTooFar, IsTooLong}

-- one record stands at a place, all others are as before, and so is what stands in front of the blocks
pub record Replaced (unit first end : ℕ) (old : List Piece) (free : Frees) (place : ℕ) (r : Record) (before bytes : List ℕ) : Type 0 where
  pub pieces : List Piece
  pub is : LaidOut unit first end pieces free none bytes
  pub records : (q : ℕ) → record_at first pieces q ≡ (if q == place then Some r else record_at first old q)
  pub front : take first bytes ≡ take first before

-- it stands where none was
pub record Added (unit first end : ℕ) (old : List Piece) (free : Frees) (place : ℕ) (r : Record) (before bytes : List ℕ) : Type 0 where
  pub now : Replaced unit first end old free place r before bytes
  pub fresh : record_at first old place ≡ None

-- a record may be written over a block that isn't the pool's, in which it has room
pub record MayReplace (unit first end : ℕ) (free : Frees) (at size : ℕ) (new bytes : List ℕ) : Type 0 where
  pub pieces : List Piece
  pub r : Record
  pub laid : LaidOut unit first end pieces free none bytes
  pub block : HasBlock first pieces at size
  pub unpooled : free at ≡ None
  pub aligned : first % unit ≡ 0
  pub is : new ≡ spell (held r)
  pub whole : IsWhole unit (held r)
  pub few : length new ≤ size

-- a block that may be given back
pub record IsWithin (unit end : ℕ) (free : Frees) (at size long : ℕ) : Type 0 where
  pub sized : IsSize unit size
  pub aligned : at % unit ≡ 0
  pub high : at + size ≤ end
  pub apart : MeetsNone free at size
  pub inside : at + size ≤ long

-- a block was given back to a pool, and the head of what it became was written
pub record IsGiven (tells : Type 0) (old new : Frees) (at size : ℕ) (bytes bytes' : List ℕ) : Type 0 where
  pub start : ℕ
  pub total : ℕ
  pub back : GivesBack old new at size start total
  pub marked_so : tells → bytes' ≡ marked start total bytes

-- a pool to which a block of so many bytes was given back
pub record Gives (at long : ℕ) (old new : Pool) : Type 0 where
  pub size : new.size ≡ old.size
  pub start : ℕ
  pub total : ℕ
  pub back : GivesBack (frees old) (frees new) at long start total

-- the bytes of the block of the record there
pub record IsBlockAt (h : Head) (at size : ℕ) (bytes : List ℕ) : Type 0 where
  pub is : (r : Record) → HasRecord h r at bytes → size ≡ size_of (held r)

-- no block of so many bytes is to be had: the blocks end within the file, which has so many bytes and is as it was, and the place for it is too far, or the file
-- grows too long by it; or the undo log is full
abbrev pub HasNoRoom : Head → ℕ → Frees → ℕ → ℕ → Type 0 → Type 0 → ℕ → Type 0
HasNoRoom h end free limit long still log_is_full b = (still × ((end ≤ long) × (IsTooFar h end b free ⊎ IsTooLong h limit end b free))) ⊎ log_is_full

-- the same without the log; or it is larger than a block may be
abbrev pub IsRefusedFor : Head → ℕ → Frees → ℕ → ℕ → ℕ → Type 0
IsRefusedFor h end free limit long b = (2 ^ 30 < b) ⊎ ((end ≤ long) × (IsTooFar h end b free ⊎ IsTooLong h limit end b free))

module _ {S : Type 0} (s : Ghosts S) where
  -- the block of the record there has so many bytes
  abbrev pub HasRoom : Body → ℕ → ℕ → S → Type 0
  HasRoom b at room space = s.tells → IsBlockAt b.head at room (s.now space b.file)

  -- so it is with the free blocks that are held in memory, as the space stands
  abbrev pub LacksPlace : Body → S → S → ℕ → Type 0
  LacksPlace b old space size = HasNoRoom b.head b.pool.size (frees b.pool) (s.limit space b.file) (length (s.now space b.file)) (Brought s b.file old space) (s.log_full space) size

  abbrev pub LacksRoom : Body → S → S → ℕ → Type 0
  LacksRoom b old space size = s.log_full space ⊎ (Brought s b.file old space × IsRefusedFor b.head b.pool.size (frees b.pool) (s.limit space b.file) (length (s.now space b.file)) size)
