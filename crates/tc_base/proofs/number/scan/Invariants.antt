use Rattle.tc_base.proofs.Vnums.{Scanned}
use Rattle.tc_base.proofs.number.scan.Given as goal

abbrev pub invariant-loop-i : goal.invariant-loop-i
invariant-loop-i l = Scanned l.i l.low l.scale l.bytes
