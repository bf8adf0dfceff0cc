use Rattle.std.proofs.Common.{◌≡◌, drop}
use Rattle.tc_plain.specs.Bodies.{has_number}
use Rattle.tc_plain.proofs.operators.has_number.Given as goal

abbrev pub invariant-loop-token : goal.invariant-loop-token
invariant-loop-token l = has_number l.n l.e ≡ has_number l.n (drop l.token-index l.e)
