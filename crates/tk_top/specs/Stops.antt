-- What a stop leaves of a command on files.
use Rattle.std.specs.Prelude.{◌≡◌, ◌⊎◌, length, List, Option, Some}
use Rattle.tc_base.specs.Files.{Files}
use Rattle.tc_io.specs.Images.{Calls, now, Images, ImagesSince, IsLostSync}
use Rattle.tc_space.specs.declared.space.Space as space
use Rattle.ud_log.specs.Undo.{recovered}
use Rattle.ud_state.specs.State.{IsSettled}
use Rattle.tc_model.specs.Contents.{Contents}
use Rattle.ty_world.specs.World.{Mark}
use Rattle.ty_rounds.specs.Kept.{AtMark, LeavesMarks}
use Rattle.tk_top.specs.declared.ends.End.{End}
use Rattle.tk_top.specs.declared.ends.End.TheVariants.{Done, Words, Refused, VolumeFault, Broken, NoMemory, Full, WireFault, TurnsSpent}
use Rattle.tk_top.specs.Staying.{AsOpening, IsHindered}

-- an end that may come before the files were recovered
abbrev pub IsEarly : End → Type 0
IsEarly Done = ⊥
IsEarly Words = ⊥
IsEarly Refused = ⊥
IsEarly VolumeFault = Unit {0}
IsEarly (Broken file rule) = Unit {0}
IsEarly NoMemory = Unit {0}
IsEarly Full = ⊥
IsEarly WireFault = ⊥
IsEarly TurnsSpent = ⊥

-- over a space: at the exit it is so, and at any moment it stands for one of these marks
pub record StopsOver {S : Type 0} (s : space.Ghosts S) (reopens : Files → Contents → Type 0) (exits : Option Files → Type 0) (marks : List Mark) (old new : S) : Type 0 where
  pub exit : (o : Option Files) → s.left new (s.moment new) o → exits o
  pub moments : LeavesMarks s reopens old new marks

-- over a volume that was settled: where this holds of its files, as they read, they are looked at, and no more
pub record Spares (which : Files → Type 0) (end : End) (old new : Calls) : Type 0 where
  -- at the exit, however it ended; where it ended before the log was brought to the disk, as an opening image
  pub stays : IsSettled old → (files : Files) → recovered (now old) ≡ Some files → which files → (ims : Files) → Images new ims → (recovered ims ≡ Some files) ⊎ (IsEarly end × IsLostSync old new 1 × AsOpening old (recovered ims))
  -- at any moment, as an opening image
  pub moments : IsSettled old → (files : Files) → recovered (now old) ≡ Some files → which files → (ims : Files) → ImagesSince new (length old) ims → AsOpening old (recovered ims)

-- over a volume whose files, as they read, are refused: the run is, if no call failed before and there was memory, and they stay
pub record LeavesAlone (wrong : Files → Type 0) (end : End) (old new : Calls) : Type 0 where
  pub ends : (files : Files) → recovered (now old) ≡ Some files → wrong files → (end ≡ Refused) ⊎ IsHindered end
  pub spares : Spares wrong end old new

-- over a volume
pub record StopsAt (reopens : Files → Contents → Type 0) (exits : Option Files → Type 0) (early : Type 0) (marks : List Mark) (old new : Calls) : Type 0 where
  -- at the exit; where the run ended before the log was brought to the disk, as an opening image
  pub exit : (ims : Files) → Images new ims → exits (recovered ims) ⊎ (early × IsLostSync old new 1 × AsOpening old (recovered ims))
  -- at any moment, or as an opening image
  pub moments : (ims : Files) → ImagesSince new (length old) ims → AtMark reopens (recovered ims) marks ⊎ AsOpening old (recovered ims)
