use Rattle.tc_base.proofs.Endians.{Written}
use Rattle.tc_base.proofs.endian.set_le.Given as goal

abbrev pub invariant-loop-i : goal.invariant-loop-i
invariant-loop-i l = Written l.at l.width l.i l.rest l.n l.bytes l.initial.bytes
