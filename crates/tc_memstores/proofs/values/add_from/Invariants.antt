use Rattle.std.proofs.Common.{◌≡◌, ◌++◌, drop}
use Rattle.tc_memstores.proofs.values.add_from.Given as goal

abbrev pub invariant-loop-i : goal.invariant-loop-i
invariant-loop-i l = l.into ++ drop l.i l.values ≡ l.fn.into ++ drop l.fn.from l.values
