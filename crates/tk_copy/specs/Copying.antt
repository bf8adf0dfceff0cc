-- Steps of copying.
use Rattle.std.specs.Prelude.{◌≡◌, ℕ, ◌<◌, ◌≤◌, List, true, false, Err}
use Rattle.tc_base.specs.Files.{Files}
use Rattle.tc_io.specs.Images.{Calls, Images, Image, of, now}
use Rattle.tc_io.specs.Copies.{LeftOfCopy, label_of, may_undo}
use Rattle.tc_io.specs.declared.volume.Volume.{Ghosts}
use Rattle.ud_log.specs.Undo.{is_data, place_of, rule, undo}
use Rattle.ud_state.specs.Since.{Since}

-- each image of the copy is one of these
pub record LeavesCopy (kept : Files) (old cs : Calls) : Type 0 where
  pub all : (ims : Files) → Images cs ims → LeftOfCopy kept old ims

-- so it is at each moment since then
pub record Copies (kept : Files) (old new : Calls) : Type 0 where
  pub moments : Since (LeavesCopy kept old) old new

-- the first byte of each image of the log is another than that of the magic word
pub record IsSpoiled (cs : Calls) : Type 0 where
  pub all : (i : List ℕ) → Image (of 1 cs) i → may_undo i ≡ false

-- it is so at each moment since then, if it was
pub record StaysSpoiled (old new : Calls) : Type 0 where
  pub moments : IsSpoiled old → Since IsSpoiled old new

-- one file has these bytes alone, and the others were left as they are
pub record CopiesFile (old new : Calls) (file : ℕ) (bytes : List ℕ) : Type 0 where
  pub only : (i : List ℕ) → Image (of file new) i → i ≡ bytes
  pub others : (g : ℕ) → (file ≡ g → ⊥) → of g new ≡ of g old

-- the data files before a place have the kept bytes alone
pub record AreCopied (kept : Files) (cs : Calls) (upto : ℕ) : Type 0 where
  pub each : (f : ℕ) → is_data f ≡ true → place_of f < upto → (i : List ℕ) → Image (of f cs) i → i ≡ kept f

-- the log was brought to the disk: each image was one before, and the log reads its only one
pub record LogSynced (old cs : Calls) : Type 0 where
  pub from : (ims : Files) → Images cs ims → Images old ims
  pub only : (i : List ℕ) → Image (of 1 cs) i → i ≡ now cs 1

-- at each moment of a call behind which the copy is whole, where its data files are and its log breaks the first rule
abbrev pub Finishes : Calls → Calls → Type 0
Finishes mid new = (kept : Files) (old : Calls) → AreCopied kept mid 18 → IsSpoiled mid → Since (LeavesCopy kept old) mid new

-- ---- what comes of a stop

-- such a log breaks the first rule, whatever files stand beside it
abbrev pub UnusableBreaks : Type 0
UnusableBreaks = (ims : Files) → may_undo (ims 1) ≡ false → undo (ims 1) ims ≡ Err (rule 1)

-- ---- of a volume

-- whatever a call answers: the copy bound last is the only one that changes, the volume's own files stay, and faults are only added
pub record ChangesCopy {V : Type 0} (v : Ghosts V) (old new : V) : Type 0 where
  pub bound : v.bound new ≡ v.bound old
  pub told : (v.names new).told ≡ (v.names old).told
  pub label : (v.names new).label ≡ (v.names old).label
  pub files : v.tells → v.calls new ≡ v.calls old
  pub others : v.tells → (l : List ℕ) → (l ≡ label_of (v.names old) → ⊥) → (v.names new).copies l ≡ (v.names old).copies l
  pub later : v.faults old ≤ v.faults new
