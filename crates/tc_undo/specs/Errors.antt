-- What errors say, and the same cause as another error.
use Rattle.tc_base.specs.declared.kind.Rule.{Rule}
use Rattle.tc_undo.specs.declared.errors.RecoverErr.{RecoverErr}
use Rattle.tc_undo.specs.declared.errors.RecoverErr.TheVariants as recover
use Rattle.tc_undo.specs.declared.errors.UndoErr.{UndoErr}
use Rattle.tc_undo.specs.declared.errors.UndoErr.TheVariants as undo

abbrev pub undo_err : RecoverErr → UndoErr
undo_err recover.Fault = undo.Fault
undo_err (recover.Broken r) = undo.Broken r

-- of a rule that is broken this holds
abbrev pub OnBroken : RecoverErr → (Rule → Type 0) → Type 0
OnBroken recover.Fault P = Unit {0}
OnBroken (recover.Broken r) P = P r

abbrev pub OnRule : UndoErr → (Rule → Type 0) → Type 0
OnRule undo.Fault P = Unit {0}
OnRule (undo.Broken r) P = P r
OnRule undo.Memory P = Unit {0}

-- no rule is named where the files are told
abbrev pub NotBroken : Type 0 → RecoverErr → Type 0
NotBroken tells e = OnBroken e (λ r. tells → ⊥)

pub on_broken : (e : RecoverErr) (P Q : Rule → Type 0) → ((r : Rule) → P r → Q r) → OnBroken e P → OnBroken e Q
on_broken recover.Fault P Q f h = tt
on_broken (recover.Broken r) P Q f h = f r h
