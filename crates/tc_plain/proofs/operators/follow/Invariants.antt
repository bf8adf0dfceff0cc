use Rattle.std.proofs.Common.{◌≡◌, length}
use Rattle.tc_model.specs.Operators.{follow}
use Rattle.tc_plain.proofs.operators.follow.Given as goal

abbrev pub invariant-loop-rest : goal.invariant-loop-rest
invariant-loop-rest l = follow l.others l.texts ≡ follow l.rest l.texts

abbrev pub decreases-loop-rest : goal.decreases-loop-rest
decreases-loop-rest l = length l.rest
