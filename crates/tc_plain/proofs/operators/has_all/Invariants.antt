use Rattle.std.proofs.Common.{◌≡◌, drop}
use Rattle.tc_plain.specs.Bodies.{has_all}
use Rattle.tc_plain.proofs.operators.has_all.Given as goal

abbrev pub invariant-loop-token : goal.invariant-loop-token
invariant-loop-token l = has_all l.among l.texts ≡ has_all l.among (drop l.token-index l.texts)
