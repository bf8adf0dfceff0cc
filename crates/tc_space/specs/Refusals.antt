-- Why a call was refused, where its errors are those of records.
use Rattle.std.specs.Prelude.{Result, IsErrOf}
use Rattle.tc_io.specs.Causes.{Rose}
use Rattle.tc_space.specs.declared.errors.RecErr.{RecErr}
use Rattle.tc_space.specs.declared.errors.RecErr.TheVariants.{Full, Fault}
use Rattle.tc_space.specs.declared.space.Space.{Ghosts}

-- where it failed so, the count of faults rose
abbrev pub Blamed : {S : Type 0} → Ghosts S → Type 0 → S → S → Type 0
Blamed s failed old new = failed → Rose (s.faults old) (s.faults new)

-- a fault comes only where a call of the volume failed
abbrev pub OnFault : {S T : Type 0} → Ghosts S → Result T RecErr → S → S → Type 0
OnFault s result old new = IsErrOf result Fault → Rose (s.faults old) (s.faults new)

-- besides, no limit is named
abbrev pub Blames : {S T : Type 0} → Ghosts S → Result T RecErr → S → S → Type 0
Blames s result old new = (IsErrOf result Fault → Rose (s.faults old) (s.faults new)) × (IsErrOf result Full → ⊥)

-- the one limit that is named is the undo log's
abbrev pub OnlyLogIsFull : {S T : Type 0} → Ghosts S → Result T RecErr → S → Type 0
OnlyLogIsFull s result new = IsErrOf result Full → s.tells → s.log_full new
