use Rattle.std.proofs.Common.{◌≡◌, ◌+◌, drop}
use Rattle.tc_base.specs.Vnum.{tops}
use Rattle.bt_slots.proofs.fronts.count_tops.Given as goal

abbrev pub invariant-loop-i : goal.invariant-loop-i
invariant-loop-i l = tops l.bytes ≡ l.i + tops (drop l.i l.bytes)
