use Rattle.std.proofs.Common.{◌≡◌, drop}
use Rattle.td_index.specs.Ranges.{second}
use Rattle.td_index.proofs.ranges.second_of.Given as goal

abbrev pub invariant-loop-i : goal.invariant-loop-i
invariant-loop-i l = second l.key ≡ second (drop l.i l.key)
