-- What the steps of a put and of an out ask for, and what they make of the map.
use Rattle.std.specs.Prelude.{◌≡◌, ℕ, ◌+◌, ◌%◌, ◌<◌, ◌≤◌, ◌^◌, List, length, max, None}
use Rattle.std.specs.FinMap.{insert}
use Rattle.tc_base.specs.Maps.{Map}
use Rattle.tc_space.specs.declared.space.Space.{Ghosts}
use Rattle.hf_head.specs.declared.head.Head.{Head}
use Rattle.hf_head.specs.Heads.{unit}
use Rattle.hf_block.specs.Pieces.{Record, Piece, held, spell, IsWhole}
use Rattle.hf_block.specs.Written.{block_len, written}
use Rattle.hf_layout.specs.Frees.{none}
use Rattle.hf_layout.specs.Layout.{HasBlock, LaidOut}
use Rattle.hf_tree.specs.Keys.{Key}
use Rattle.hf_tree.specs.Links.{width}
use Rattle.hf_chain.specs.Chains.{CanName}
use Rattle.hf_pool.specs.Pools.{frees, GoesBack, Notes, Takes}
use Rattle.hf_record.specs.declared.body.Body.{Body}
use Rattle.hf_record.specs.Allocating.{HoldsWritten}
use Rattle.hf_record.specs.Costs.{Edits, FewBeside, Spares}
use Rattle.hf_record.specs.Holding.{Has, HasMap}
use Rattle.hf_record.specs.Filling.{reach}
use Rattle.hf_record.specs.Moves.{Added, IsGiven, IsWithin, MayReplace, Replaced}

-- the space may be used, and some map is held
pub record CanChange {S : Type 0} (s : Ghosts S) (b : Body) (space : S) : Type 0 where
  pub sound : s.sound space
  pub held : s.tells → (m : Map) × Has b (s.now space b.file) m

-- the file and its head stay
pub record StaysBody (old new : Body) : Type 0 where
  pub file : new.file ≡ old.file
  pub head : new.head ≡ old.head

-- the bytes of the block of a key and a value
abbrev pub size_in : Body → List ℕ → List ℕ → ℕ
size_in b key value = block_len (width b.head) key value (unit b.head)

-- ---- maps

module _ {S : Type 0} (s : Ghosts S) where
  -- what is held was changed so, the file is as long as before, and so many bytes of it differ at most
  pub record MapsBy (f : Map → Map) (most : ℕ) (old new : Body) (before after : S) : Type 0 where
    pub sound : s.sound after
    pub map : s.tells → (m : Map) → Has old (s.now before old.file) m → HasMap old.head new.pool.size (frees new.pool) (f m) (s.now after old.file)
    pub spares : Spares s most old new before after
    pub long : s.tells → length (s.now after old.file) ≡ length (s.now before old.file)

  -- a key was given a value in whatever map is held: its record stands at a place, in the block of its bytes, by which alone the file may be longer, and
  -- besides that so many bytes differ at most
  pub record PutsAt (key : Key) (value : List ℕ) (place most : ℕ) (old new : Body) (before after : S) : Type 0 where
    pub sound : s.sound after
    pub map : s.tells → (m : Map) → Has old (s.now before old.file) m → HoldsWritten old.head new.pool.size (frees new.pool) (insert m key value) key place (size_in old key value) (s.now after old.file)
    pub spares : Spares s (size_in old key value + most) old new before after
    pub beside : s.tells → FewBeside place (size_in old key value) most (s.now before old.file) (s.now after old.file)
    pub long : s.tells → length (s.now after old.file) ≡ max (length (s.now before old.file)) (place + size_in old key value)

  -- in a block that was taken for it
  pub record PutsNew (key : Key) (value : List ℕ) (old new : Body) (before after : S) : Type 0 where
    pub place : ℕ
    pub puts : PutsAt key value place 13 old new before after
    pub takes : Takes (reach old.head) old.pool new.pool (size_in old key value) place

-- ---- the bytes of a record

-- the record of a key and a value in a file with that head
abbrev pub record_in : Head → ℕ → ℕ → ℕ → List ℕ → List ℕ → Record
record_in h hash left right key value = written (width h) hash left right key value (unit h)

-- the bytes of its block, which is whole
pub record AreBytesOf (h : Head) (r : Record) (bytes : List ℕ) : Type 0 where
  pub is : bytes ≡ spell (held r)
  pub whole : IsWhole (unit h) (held r)
  pub long : length bytes ≡ block_len (width h) r.key r.value (unit h)
  pub most : length bytes ≤ 2 ^ 30

-- a record of the key and the value has room in so many bytes
pub record FitsInto (b : Body) (key : Key) (value : List ℕ) (room : ℕ) : Type 0 where
  pub within : size_in b key value ≤ room
  pub most : size_in b key value ≤ 2 ^ 30

-- ---- blocks taken, written over and given back

-- a block may have so many bytes
pub record IsSized (h : Head) (size : ℕ) : Type 0 where
  pub some : 0 < size
  pub most : size ≤ 2 ^ 30
  pub aligned : size % unit h ≡ 0

module _ {S : Type 0} (s : Ghosts S) where
  -- a block was taken for these bytes, and they were written there: their record stands where none was
  pub record AddsRecord (bytes : List ℕ) (place : ℕ) (old new : Body) (before after : S) : Type 0 where
    pub added : s.tells → (r : Record) (ps : List Piece) → bytes ≡ spell (held r) → IsWhole (unit old.head) (held r) → LaidOut (unit old.head) old.head.first old.pool.size ps (frees old.pool) none (s.now before old.file)
        → Added (unit old.head) old.head.first new.pool.size ps (frees new.pool) place r (s.now before old.file) (s.now after old.file)
    pub named : CanName old.head place
    pub low : new.pool.size ≤ 2 ^ 40
    pub taken : Takes (reach old.head) old.pool new.pool (length bytes) place
    pub spares : Spares s (length bytes + 5) old new before after
    pub beside : s.tells → FewBeside place (length bytes) 5 (s.now before old.file) (s.now after old.file)
    pub long : s.tells → length (s.now after old.file) ≡ max (length (s.now before old.file)) (place + length bytes)

  -- the space may be used, and a record may be written over a block of so many bytes
  pub record MayWriteOver (b : Body) (at room : ℕ) (bytes : List ℕ) (space : S) : Type 0 where
    pub sound : s.sound space
    pub replaces : s.tells → MayReplace b.pool.unit b.head.first b.pool.size (frees b.pool) at room bytes (s.now space b.file)

  -- it was: the record stands there
  pub record WritesOver (at room : ℕ) (bytes : List ℕ) (old new : Body) (before after : S) : Type 0 where
    pub replaced : s.tells → (ps : List Piece) (r : Record) → bytes ≡ spell (held r) → IsWhole old.pool.unit (held r) → LaidOut old.pool.unit old.head.first old.pool.size ps (frees old.pool) none (s.now before old.file)
        → HasBlock old.head.first ps at room → frees old.pool at ≡ None → Replaced old.pool.unit old.head.first old.pool.size ps (frees new.pool) at r (s.now before old.file) (s.now after old.file)
    pub spares : Spares s (length bytes + 5) old new before after
    pub beside : s.tells → FewBeside at (length bytes) 5 (s.now before old.file) (s.now after old.file)
    pub long : s.tells → length (s.now after old.file) ≡ length (s.now before old.file)

  -- the space may be used, and a block of a file may be given back
  pub record MayGiveBack (b : Body) (at size : ℕ) (space : S) : Type 0 where
    pub sound : s.sound space
    pub within : s.tells → IsWithin b.pool.unit b.pool.size (frees b.pool) at size (length (s.now space b.file))

  -- it was given back
  pub record GivesBlock (at size : ℕ) (old new : Body) (before after : S) : Type 0 where
    pub given : IsGiven s.tells (frees old.pool) (frees new.pool) at size (s.now before old.file) (s.now after old.file)
    pub back : s.tells → GoesBack old.pool.unit (frees old.pool) (frees new.pool) at size (s.now before old.file) (s.now after old.file)
    pub same_size : new.pool.size ≡ old.pool.size
    pub edits : Edits s old.file 5 before after
    pub notes : Notes old.pool new.pool
    pub long : s.tells → length (s.now after old.file) ≡ length (s.now before old.file)
