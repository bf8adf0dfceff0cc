use Rattle.tc_base.proofs.Endians.{Backed}
use Rattle.tc_base.proofs.endian.set_be.Given as goal

abbrev pub invariant-loop-i : goal.invariant-loop-i
invariant-loop-i l = Backed l.at l.width l.i l.rest l.n l.bytes l.initial.bytes
