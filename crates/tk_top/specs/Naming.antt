-- What the naming and opening of a volume leaves of it.
use Rattle.std.specs.Prelude.{◌≡◌, ◌⊎◌, ◌≤◌, ℕ, max, Bool, true, false, List, [], ◌∷◌, length, Option, Some}
use Rattle.tc_base.specs.Files.{Files}
use Rattle.tc_io.specs.Causes.{Rose}
use Rattle.tc_io.specs.Images.{Calls, now, Images, ImagesSince, IsLostSync}
use Rattle.tc_io.specs.Told.{Adds}
use Rattle.tc_io.specs.declared.volume.Volume as volume
use Rattle.tc_space.specs.declared.space.Space as space
use Rattle.tc_undo.specs.Errors.{OnRule}
use Rattle.tc_undo.specs.declared.errors.UndoErr.{UndoErr}
use Rattle.tc_undo.specs.declared.errors.UndoErr.TheVariants as undo_error
use Rattle.ud_log.specs.Undo.{is_data, recovered}
use Rattle.ud_state.specs.State.{IsSettled}
use Rattle.tk_top.specs.declared.ends.End.{End}
use Rattle.tk_top.specs.Causes.{CausedByVolume}
use Rattle.tk_top.specs.Ends.{end_of_undo}
use Rattle.tk_top.specs.Staying.{AsOpening, BreaksLog, LeavesBroken}

-- a volume is handed back: it may be opened again, and a call of it failed where that is said
pub record HandsOver (why : UndoErr) (is_bound : Bool) (before now : ℕ) : Type 0 where
  pub bound : is_bound ≡ true
  pub later : before ≤ now
  pub cause : why ≡ undo_error.Fault → Rose before now

-- a space was opened over a volume that told its calls
pub record OpensOver {S : Type 0} (s : space.Ghosts S) (most : ℕ) (old : Calls) (a : S) : Type 0 where
  pub tells : s.tells
  -- its files are what those of the volume, as they read, recover to
  pub files : recovered (now old) ≡ Some (s.now a)
  -- each data file may have so many bytes, or as many as it has where that is more
  pub limits : (f : ℕ) → is_data f ≡ true → s.limit a f ≡ max most (length (s.now a f))
  pub later : length old ≤ s.moment a
  -- at any moment of a volume that was settled, as an opening image
  pub moments : IsSettled old → (o : Option Files) → s.left a (length old) o → AsOpening old o

-- no space was opened over it
pub record LeavesOpening (old new : Calls) : Type 0 where
  -- at the exit, what the files, as they read, recover to; where the log wasn't brought to the disk, as an opening image
  pub exit : (ims : Files) → Images new ims → (recovered ims ≡ recovered (now old)) ⊎ (IsLostSync old new 1 × AsOpening old (recovered ims))
  -- at any moment, as an opening image
  pub moments : (ims : Files) → ImagesSince new (length old) ims → AsOpening old (recovered ims)

-- the names that it was given grew by this one, or by nothing
pub record NamesTold {V : Type 0} (v : volume.Ghosts V) (name : List ℕ) (old new : V) : Type 0 where
  pub told : Adds (v.names old).told (v.names new).told (name ∷ []) ⊎ Adds (v.names old).told (v.names new).told []

-- besides, no copy changes
pub record NamesOnce {V : Type 0} (v : volume.Ghosts V) (name : List ℕ) (old new : V) : Type 0 where
  pub told : Adds (v.names old).told (v.names new).told (name ∷ []) ⊎ Adds (v.names old).told (v.names new).told []
  pub copies : v.tells → (v.names new).copies ≡ (v.names old).copies

-- a volume was given a name, and a space was opened over it
pub record OpensNamed {S V : Type 0} (s : space.Ghosts S) (v : volume.Ghosts V) (name : List ℕ) (most : ℕ) (vol : V) (a : S) : Type 0 where
  pub sound : s.sound a
  pub untouched : s.touched a ≡ false
  pub names : Adds (v.names vol).told (s.names a).told (name ∷ [])
  pub copies : v.tells → (s.names a).copies ≡ (v.names vol).copies
  pub later : v.faults vol ≤ s.faults a
  pub over : v.tells → OpensOver s most (v.calls vol) a

-- or it was refused, and the run ends so
pub record EndsUnopened {V : Type 0} (v : volume.Ghosts V) (name : List ℕ) (end : End) (old new : V) : Type 0 where
  pub why : UndoErr
  pub is : end ≡ end_of_undo why
  -- a rule is named where the log breaks it first, and then no file was changed
  pub broken : OnRule why (λ rule. v.tells → BreaksLog (v.calls old) (v.calls new) rule)
  -- over a log that breaks a rule nothing was called but the sync of it, which may have failed
  pub spares : v.tells → LeavesBroken (v.calls old) (v.calls new)
  -- memory is asked for before the volume is called
  pub no_memory : why ≡ undo_error.Memory → v.tells → v.calls new ≡ v.calls old
  pub names : NamesOnce v name old new
  pub caused : CausedByVolume v.faults end old new
  pub leaves : v.tells → IsSettled (v.calls old) → LeavesOpening (v.calls old) (v.calls new)
