-- What settling, writing the records of a round and committing does.
use Rattle.std.specs.Prelude.{◌≡◌, ◌⊎◌, ◌<◌, ◌≤◌, ◌^◌, ℕ, Bool, true, false, List, ◌++◌, length, All, Option, Some, None, Result, OnOk, IsErrOf}
use Rattle.tc_base.specs.Files.{Files}
use Rattle.tc_io.specs.Told.{Adds}
use Rattle.tc_space.specs.Moments.{LeavesOnly}
use Rattle.tc_space.specs.declared.space.Space as space
use Rattle.tc_model.specs.Contents.{Contents}
use Rattle.ty_ulog.specs.Log.{IsLog}
use Rattle.ty_ulog.specs.Noting.{Lacks}
use Rattle.ty_ulog.specs.declared.record.Record.{Record}
use Rattle.ty_world.specs.Logs.{news, records_after, file_after}
use Rattle.ty_world.specs.World.{Mark}
use Rattle.ty_base.specs.Holding as holding
use Rattle.ty_base.specs.Holding.{Frame, Laid, Layout, frame_of}
use Rattle.ty_rounds.specs.Books.{Book, IsBook, with_records}
use Rattle.ty_rounds.specs.Logging.{LacksRoom}
use Rattle.ty_rounds.specs.Kept.{HasMark, HoldsMark, MovesTo, Reopens}
use Rattle.ty_rounds.specs.Works.{Work, IsFit}
use Rattle.ty_rounds.specs.declared.logging.Logged.{Logged}
use Rattle.ty_rounds.specs.declared.outcome.TurnErr.{TurnErr}
use Rattle.ty_rounds.specs.declared.outcome.TurnErr.TheVariants.{Full}

-- ---- with no update log

-- a base and a space that what was done in is kept of
pub record MayKeep {S B : Type 0} (s : space.Ghosts S) (holds : B → Files → Contents → Type 0) (commits : Bool) (base : B) (space : S) : Type 0 where
  pub ready : holding.IsReady s holds base space
  pub untouched : commits ≡ false → s.touched space ≡ false

-- whatever mark was held, the files stand for it now; where there is nothing to commit, they did before
pub record IsKept {S B : Type 0} (s : space.Ghosts S) (holds : B → Files → Contents → Type 0) (reopens : Files → Contents → Type 0) (commits : Bool) (base base' : B) (old new : S) : Type 0 where
  pub ready : holding.IsReady s holds base' new
  pub untouched : s.touched new ≡ false
  pub marks : (m : Mark) → HasMark s holds base old m → (commits ≡ false → reopens (s.now old) m.contents) → HoldsMark s holds reopens base' new m

-- files that are kept have the numbers that they had, beside the same files; where they are written, nothing stands behind what their heads say
abbrev pub kept_frame : Bool → Frame → Frame
kept_frame true l = record { layout = record { numbers = l.layout.numbers; lead = l.layout.lead; slack = 0 }; files = l.files }
kept_frame false l = l

-- what is kept is laid out so
abbrev pub IsKeptLaid : {S B : Type 0} → space.Ghosts S → (B → Files → Contents → Type 0) → (Files → Contents → Type 0) → (ℕ → Type 0) → (Files → Layout) → Bool → B → B → S → S → Type 0
IsKeptLaid s holds reopens own layout commits base base' old new = IsKept s holds (Laid own layout (kept_frame commits (frame_of layout (s.now old))) reopens) commits base base' old new

-- and what a stop leaves is
abbrev pub MovesLaid : {S B : Type 0} → space.Ghosts S → (B → Files → Contents → Type 0) → (Files → Contents → Type 0) → (ℕ → Type 0) → (Files → Layout) → Bool → B → S → S → Type 0
MovesLaid s holds reopens own layout commits base old new = (m : Mark) → HasMark s holds base old m → MovesTo s (Laid own layout (kept_frame commits (frame_of layout (s.now old))) reopens) old new m

-- ---- a round's

-- the records that a round adds, where the clock answers so
abbrev pub added_to : Book → List ℕ → Work → List Record
added_to b ticks o = news b.is b.records ticks o.updates o.taken

abbrev pub book_after : Book → List ℕ → Work → Book
book_after b ticks o = with_records b (records_after b.is b.records (added_to b ticks o))

abbrev pub mark_after : Book → List ℕ → Work → Mark → Mark
mark_after b ticks o m = record { contents = m.contents; log = file_after b.is m.log (added_to b ticks o) }

-- how often the clock is asked
abbrev pub asks_of : Option Logged → Work → ℕ
asks_of None o = 0
asks_of (Some l) o = length o.updates

-- a limit that the records meet: one has no timestamp left, or no room in file 2, or the undo log is full
abbrev pub LogLacks : {S : Type 0} → space.Ghosts S → S → Book → List ℕ → List ℕ → Work → Type 0
LogLacks s new b file ticks o = LacksRoom (Lacks s new) (length file) (added_to b ticks o)

-- files stand for a mark, whose log is that of these records where an update log is kept
pub record ReopensLog (reopens : Files → Contents → Type 0) (b : Book) (o : Option Files) (m : Mark) : Type 0 where
  pub reopen : Reopens reopens o m
  pub log : b.is.logs ≡ true → IsLog m.log b.records

-- a stop leaves what is kept, or what stands for the mark so
pub record MovesLog {S : Type 0} (s : space.Ghosts S) (reopens : Files → Contents → Type 0) (old new : S) (b : Book) (m : Mark) : Type 0 where
  pub leaves : LeavesOnly s.moment s.left old new (λ o. (o ≡ s.kept old) ⊎ ReopensLog reopens b o m)

module _ {S B : Type 0} (s : space.Ghosts S) (holds : B → Files → Contents → Type 0) (reopens : Files → Contents → Type 0) where
  -- a base, a space and what is to be kept of them
  pub record MayKeepRound (l : Option Logged) (o : Work) (base : B) (space : S) : Type 0 where
    pub may : MayKeep s holds o.commits base space
    pub fit : IsFit l o

  -- the files stand for the mark behind the round, and file 2 is the update log behind it
  pub record StandsKept (l : Option Logged) (b : Book) (base : B) (space : S) (m : Mark) : Type 0 where
    pub holds_it : HoldsMark s holds reopens base space m
    pub book : IsBook l b m.log

  -- whatever mark was held, and whatever the clock will answer behind what it was asked for
  pub record IsRoundKept (o : Work) (ticks : List ℕ) (l l' : Option Logged) (base base' : B) (old new : S) : Type 0 where
    pub ready : holding.IsReady s holds base' new
    pub untouched : s.touched new ≡ false
    pub each : length ticks ≡ asks_of l o
    pub marks : (m : Mark) (b : Book) (later : List ℕ) → HasMark s holds base old m → IsBook l b m.log → (o.commits ≡ false → reopens (s.now old) m.contents)
        → StandsKept l' (book_after b (ticks ++ later) o) base' new (mark_after b (ticks ++ later) o m)

  -- the clock was asked so often, whatever comes of it; a stop leaves what was kept, or what stands for the mark behind the round
  pub record KeepsRound (o : Work) (x y : Option (List ℕ)) (l l' : Option Logged) (base base' : B) (old new : S) (result : Result (Unit {0}) TurnErr) : Type 0 where
    pub ticks : List ℕ
    pub told : Adds x y ticks
    pub small : All (λ t. t < 2 ^ 64) ticks
    pub few : length ticks ≤ asks_of l o
    pub moments : (m : Mark) (b : Book) (later : List ℕ) → HasMark s holds base old m → IsBook l b m.log → MovesLog s reopens old new (book_after b (ticks ++ later) o) (mark_after b (ticks ++ later) o m)
    pub kept : OnOk result (IsRoundKept o ticks l l' base base' old new)
    pub full : IsErrOf result Full → (o.commits ≡ true) × ((s.tells → s.log_full new) ⊎ ((m : Mark) (b : Book) (later : List ℕ) → HasMark s holds base old m → IsBook l b m.log → LogLacks s new b m.log (ticks ++ later) o))

-- besides, what is kept is laid out so, and what a stop leaves is
abbrev pub KeepsLaid : {S B : Type 0} → space.Ghosts S → (B → Files → Contents → Type 0) → (Files → Contents → Type 0) → (ℕ → Type 0) → (Files → Layout) → Work → Option (List ℕ) → Option (List ℕ) → Option Logged → Option Logged → B → B → S → S → Result (Unit {0}) TurnErr → Type 0
KeepsLaid s holds reopens own layout o x y l l' base base' old new result = KeepsRound s holds (Laid own layout (kept_frame o.commits (frame_of layout (s.now old))) reopens) o x y l l' base base' old new result
