-- What a run leaves of the copy under a label.
use Rattle.std.specs.Prelude.{◌≡◌, ◌⊎◌, ℕ, false, true, List, Option, Some, None}
use Rattle.tc_base.specs.Files.{Files}
use Rattle.tc_io.specs.Copies.{IsTheCopy, may_undo}
use Rattle.tc_io.specs.Images.{Calls, Images}
use Rattle.tc_io.specs.declared.wire.Entry.{Entry}
use Rattle.tc_model.specs.Contents.{Contents}
use Rattle.ty_world.specs.World.{Mark, World, copied_at, labels_in}
use Rattle.ty_rounds.specs.Copying.{CopyLeaves, IsAmong}
use Rattle.ty_rounds.specs.Kept.{IsIn, StandFor}
use Rattle.ty_rounds.specs.Turns.{has_send}
use Rattle.tk_top.specs.declared.ends.End.{End}
use Rattle.tk_top.specs.declared.ends.End.TheVariants.{Done, TurnsSpent, WireFault}

-- a copy of files that stand for a mark
pub record CopyStands (reopens : Files → Contents → Type 0) (m : Mark) (ims : Files) : Type 0 where
  pub files : Files
  pub stand : StandFor reopens files m
  pub copy : IsTheCopy files ims

-- of one of these marks
pub record CopyAt (reopens : Files → Contents → Type 0) (marks : List Mark) (ims : Files) : Type 0 where
  pub mark : Mark
  pub listed : IsIn mark marks
  pub stands : CopyStands reopens mark ims

-- one that can't be opened, or of one of these marks
abbrev pub IsLeft : (Files → Contents → Type 0) → List Mark → Files → Type 0
IsLeft reopens marks ims = (may_undo (ims 1) ≡ false) ⊎ CopyAt reopens marks ims

-- each image is a copy at this mark
abbrev pub IsCopyOf : (Files → Contents → Type 0) → Option Mark → Calls → Type 0
IsCopyOf reopens None calls = Unit {0}
IsCopyOf reopens (Some m) calls = (ims : Files) → Images calls ims → CopyStands reopens m ims

-- between two turns
pub record CopiesSo (reopens : Files → Contents → Type 0) (l : List ℕ) (w : World) (old new : Calls) : Type 0 where
  pub moments : CopyLeaves (IsLeft reopens w.marks) old new
  pub last : IsCopyOf reopens (copied_at l w.copies) new
  pub unasked : copied_at l w.copies ≡ None → new ≡ old

-- the last round's copies were made
abbrev pub AreMadeAt : End → Type 0
AreMadeAt end = (end ≡ Done) ⊎ ((end ≡ TurnsSpent) ⊎ (end ≡ WireFault))

-- of a last turn with these calls: its copies were made, or something was sent, or its round has no copy under this label
abbrev pub StandsAt : End → World → List Entry → List ℕ → Type 0
StandsAt end w es l = AreMadeAt end ⊎ ((has_send es ≡ true) ⊎ (IsAmong l (labels_in w es) → ⊥))

-- a stop at any moment leaves what one left before, one that can't be opened, or a copy at one of the marks; where this holds, the copy made last is there; one that nobody asked
-- for stays
pub record CopyRun (reopens : Files → Contents → Type 0) (l : List ℕ) (made : Type 0) (marks : List Mark) (newest : Option Mark) (old new : Calls) : Type 0 where
  pub moments : CopyLeaves (IsLeft reopens marks) old new
  pub last : made → IsCopyOf reopens newest new
  pub unasked : newest ≡ None → new ≡ old
