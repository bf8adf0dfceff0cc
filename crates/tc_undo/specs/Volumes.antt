-- What a call does to the volume, whatever it answers. `Ghosts V` are the members of the volume, as one.
use Rattle.std.specs.Prelude.{◌≡◌, ◌≤◌, true, Result, IsErrOf}
use Rattle.tc_io.specs.Causes.{Rose}
use Rattle.tc_io.specs.declared.volume.Volume.{Ghosts}
use Rattle.ud_state.specs.Since.{Calm, Quiet}
use Rattle.tc_undo.specs.declared.errors.RecoverErr.{RecoverErr}
use Rattle.tc_undo.specs.declared.errors.RecoverErr.TheVariants.{Fault}

-- it stays bound under its names, and faults are only added
pub record StaysBound {V : Type 0} (v : Ghosts V) (old new : V) : Type 0 where
  pub bound : v.bound new ≡ true
  pub names : v.names new ≡ v.names old
  pub later : v.faults old ≤ v.faults new

-- it stays bound, and no file changes
pub record OnlyReads {V : Type 0} (v : Ghosts V) (old new : V) : Type 0 where
  pub stays : StaysBound v old new
  pub calls : v.tells → v.calls new ≡ v.calls old

-- it stays bound, and what a stop leaves at any moment of the call is recovered to what the files were recovered to before it
pub record StaysQuiet {V : Type 0} (v : Ghosts V) (old new : V) : Type 0 where
  pub stays : StaysBound v old new
  pub quiet : v.tells → Quiet (v.calls old) (v.calls new)

-- what a stop leaves at any moment of the call is recovered to the same, where every image was recovered to one before it
abbrev pub StaysCalm : {V : Type 0} → Ghosts V → V → V → Type 0
StaysCalm v old new = v.tells → Calm (v.calls old) → Quiet (v.calls old) (v.calls new)

-- a fault comes only where a call of the volume failed
abbrev pub Blames : {V T : Type 0} → Ghosts V → Result T RecoverErr → V → V → Type 0
Blames v result old new = IsErrOf result Fault → Rose (v.faults old) (v.faults new)
