use Rattle.std.proofs.Common.{◌≡◌, ℕ, ◌<◌, get_or}
use Rattle.std.specs.Prelude.{codes}
use Rattle.ty_wire.proofs.updating.has_out.Given as goal

abbrev pub invariant-loop-arg : goal.invariant-loop-arg
invariant-loop-arg l = (k : ℕ) → k < l.arg-index → get_or l.args k (codes "out") ≡ codes "out" → ⊥
