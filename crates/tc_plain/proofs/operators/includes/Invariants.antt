use Rattle.std.proofs.Common.{◌≡◌, length}
use Rattle.tc_model.specs.Operators.{includes}
use Rattle.tc_plain.proofs.operators.includes.Given as goal

abbrev pub invariant-loop-rest : goal.invariant-loop-rest
invariant-loop-rest l = includes l.v l.w ≡ includes l.rest l.w

abbrev pub decreases-loop-rest : goal.decreases-loop-rest
decreases-loop-rest l = length l.rest
