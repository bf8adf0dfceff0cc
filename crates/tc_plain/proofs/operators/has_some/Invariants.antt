use Rattle.std.proofs.Common.{◌≡◌, drop}
use Rattle.tc_plain.specs.Bodies.{has_some}
use Rattle.tc_plain.proofs.operators.has_some.Given as goal

abbrev pub invariant-loop-token : goal.invariant-loop-token
invariant-loop-token l = has_some l.among l.texts ≡ has_some l.among (drop l.token-index l.texts)
