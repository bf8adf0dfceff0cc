-- A transaction logs the old bytes of several pieces before it writes the first of them.
use Rattle.std.specs.Prelude.{◌≡◌, ℕ, ◌+◌, ◌^◌, ◌<◌, ◌≤◌, List, length, min, max, set, true, All}
use Rattle.tc_base.specs.Files.{Files, wrote}
use Rattle.tc_io.specs.Images.{Calls, now}
use Rattle.ud_log.specs.Entries.{Entry, Covers}
use Rattle.ud_log.specs.Undo.{is_data, length_of, of_file, place_of}
use Rattle.ud_state.specs.State.{AreLens, IsOpen, LogOnly, Pending, Tx, Unchanged}
use Rattle.tc_undo.specs.Changes.{KnowsLens}
use Rattle.tc_undo.specs.Pieces.{LiesIn, Reached, laid, needs_all}
use Rattle.tc_undo.specs.declared.piece.Piece.{Piece}
use Rattle.tc_undo.specs.declared.room.Log.{Log}

-- entries have all places of a stretch of a file that the kept file has
pub record Guards (kept : Files) (es : List Entry) (f from to : ℕ) : Type 0 where
  pub each : (p : ℕ) → from ≤ p → p < to → p < length (kept f) → Covers (of_file f es) p

abbrev pub IsGuarded : Files → List Entry → Piece → Type 0
IsGuarded kept es p = Guards kept es p.file p.at (p.at + p.size)

-- the log's entries became more, and have a stretch of a file
pub record Grown (new : Calls) (kept : Files) (es : List Entry) (f from to : ℕ) : Type 0 where
  pub more : List Entry
  pub pending : Pending new kept more
  pub covers : (g p : ℕ) → Covers (of_file g es) p → Covers (of_file g more) p
  pub guards : Guards kept more f from to

-- so it is, whatever entries the log had
pub record Grows (old new : Calls) (recorded : List ℕ) (f from to : ℕ) : Type 0 where
  pub each : (kept : Files) (es : List Entry) → Pending old kept es → AreLens recorded kept → Grown new kept es f from to

-- a transaction with these recorded lengths has entries of these pieces
pub record LoggingAll (cs : Calls) (recorded : List ℕ) (ps : List Piece) : Type 0 where
  pub kept : Files
  pub es : List Entry
  pub pending : Pending cs kept es
  pub records : AreLens recorded kept
  pub guards : All (IsGuarded kept es) ps

-- they are on the disk
pub record SecuredAll (cs : Calls) (recorded : List ℕ) (ps : List Piece) : Type 0 where
  pub kept : Files
  pub es : List Entry
  pub tx : Tx cs kept es
  pub records : AreLens recorded kept
  pub guards : All (IsGuarded kept es) ps

-- the log alone changed: it has so many bytes, and the old bytes of one more piece
pub record LogsPiece (old new : Calls) (recorded : List ℕ) (p : Piece) (end : ℕ) : Type 0 where
  pub grows : Grows old new recorded p.file p.at (p.at + p.size)
  pub end_is : end ≡ length (now new 1)
  pub only : LogOnly old new

-- so it does of all of these
pub record LogsAll (old new : Calls) (recorded : List ℕ) (ps : List Piece) (end : ℕ) : Type 0 where
  pub logging : LoggingAll new recorded ps
  pub end_is : end ≡ length (now new 1)
  pub only : LogOnly old new

-- they are in the log and on the disk
pub record SecuresAll (tells : Type 0) (old new : Calls) (recorded : List ℕ) (end : ℕ) (log : Log) (ps : List Piece) : Type 0 where
  pub records : log.recorded ≡ recorded
  pub spent : log.end ≤ end + needs_all ps
  pub active : log.active ≡ true
  pub secured : tells → SecuredAll new log.recorded ps
  pub end_is : tells → log.end ≡ length (now new 1)
  pub unchanged : tells → Unchanged new log.changed
  pub only : tells → LogOnly old new

-- the log may take the old bytes of a piece
pub record MayLogPiece (tells : Type 0) (cs : Calls) (lens : List ℕ) (end : ℕ) (room : ℕ) (p : Piece) : Type 0 where
  pub data_file : is_data p.file ≡ true
  pub small : p.at + p.size ≤ 2 ^ 40
  pub room_is : end + room ≤ 2 ^ 62
  pub are : tells → AreLens lens (now cs)
  pub end_is : tells → end ≡ length (now cs 1)

-- ---- all of them

-- a piece of a data file that ends below the greatest length
pub record IsSmall (p : Piece) : Type 0 where
  pub data_file : is_data p.file ≡ true
  pub small : p.at + p.size ≤ 2 ^ 40

-- a piece has no bytes below both the recorded length and the present one
abbrev pub IsNew : List ℕ → List ℕ → Piece → Type 0
IsNew recorded lens p = min (min (p.at + p.size) (length_of recorded p.file)) (length_of lens p.file) ≤ p.at

-- the log may take the old bytes of all these
pub record MayLogAll (tells : Type 0) (cs : Calls) (lens : List ℕ) (end : ℕ) (ps : List Piece) : Type 0 where
  pub small : All IsSmall ps
  pub room : end + needs_all ps ≤ 2 ^ 62
  pub are : tells → AreLens lens (now cs)
  pub end_is : tells → end ≡ length (now cs 1)

-- ---- the files change

-- a piece was written: a transaction that guards it goes on, the file has it, and the others stay
pub record PutsPiece (tells : Type 0) (old new : Calls) (log log' : Log) (before after : List ℕ) (file at : ℕ) (bytes : List ℕ) : Type 0 where
  pub log_is : log' ≡ record log { changed = log'.changed }
  pub tx : tells → (kept : Files) (es : List Entry) → Tx old kept es → Guards kept es file at (at + length bytes) → Tx new kept es
  pub unchanged : tells → Unchanged old log.changed → Unchanged new log'.changed
  pub lens : KnowsLens tells (now new) after
  pub sized : after ≡ set before (place_of file) (max (length_of before file) (at + length bytes))
  pub here : tells → now new file ≡ wrote at bytes (now old file)
  pub others : tells → (f : ℕ) → (file ≡ f → ⊥) → now new f ≡ now old f

-- a piece ends below its file's limit
abbrev pub IsBelow : List ℕ → Piece → Type 0
IsBelow limits p = p.at + p.size ≤ length_of limits p.file

abbrev pub AllInside : List ℕ → List ℕ → Type 0
AllInside lens limits = (f : ℕ) → is_data f ≡ true → length_of lens f ≤ length_of limits f

-- where the pieces end below limits, lengths stay inside them
pub record KeepsInside (before after : List ℕ) (ps : List Piece) : Type 0 where
  pub each : (limits : List ℕ) → All (IsBelow limits) ps → AllInside before limits → AllInside after limits

-- the pieces may be written: each is guarded, inside the bytes, and begins inside its file
pub record MayPut (tells : Type 0) (cs : Calls) (log : Log) (lens bytes : List ℕ) (ps : List Piece) : Type 0 where
  pub small : All IsSmall ps
  pub lie : All (LiesIn bytes) ps
  pub reached : tells → Reached bytes ps (now cs)
  pub knows : KnowsLens tells (now cs) lens
  pub secured : tells → SecuredAll cs log.recorded ps
  pub end_is : tells → log.end ≡ length (now cs 1)
  pub unchanged : tells → Unchanged cs log.changed

-- the pieces were written
pub record PutsAll (tells : Type 0) (old new : Calls) (log log' : Log) (before after bytes : List ℕ) (ps : List Piece) : Type 0 where
  pub log_is : log' ≡ record log { changed = log'.changed }
  pub is_open : tells → IsOpen new log'.end log'.recorded log'.changed
  pub lens : KnowsLens tells (now new) after
  pub inside : KeepsInside before after ps
  pub files : tells → (f : ℕ) → is_data f ≡ true → now new f ≡ laid bytes ps f (now old f)

-- pieces were written: a transaction that guards them goes on, the files have them, and the lengths are known
pub record PutsRun (tells : Type 0) (old new : Calls) (log log' : Log) (before after bytes : List ℕ) (ps : List Piece) : Type 0 where
  pub log_is : log' ≡ record log { changed = log'.changed }
  pub tx : tells → (kept : Files) (es : List Entry) → Tx old kept es → All (IsGuarded kept es) ps → Tx new kept es
  pub unchanged : tells → Unchanged old log.changed → Unchanged new log'.changed
  pub lens : KnowsLens tells (now new) after
  pub inside : KeepsInside before after ps
  pub files : tells → (f : ℕ) → is_data f ≡ true → now new f ≡ laid bytes ps f (now old f)
  pub log_stays : tells → now new 1 ≡ now old 1

-- the old bytes of all these may go into a log of so many bytes
pub record MaySecure (tells : Type 0) (files : Files) (lens : List ℕ) (end : ℕ) (ps : List Piece) : Type 0 where
  pub small : All IsSmall ps
  pub room : end + needs_all ps ≤ 2 ^ 62
  pub knows : KnowsLens tells files lens

-- all of them were written, in the transaction that is open
pub record WritesAll (tells : Type 0) (old new : Calls) (end : ℕ) (log : Log) (before after bytes : List ℕ) (ps : List Piece) : Type 0 where
  pub active : log.active ≡ true
  pub spent : log.end ≤ end + needs_all ps
  pub is_open : tells → IsOpen new log.end log.recorded log.changed
  pub lens : KnowsLens tells (now new) after
  pub inside : KeepsInside before after ps
  pub files : tells → (f : ℕ) → is_data f ≡ true → now new f ≡ laid bytes ps f (now old f)
