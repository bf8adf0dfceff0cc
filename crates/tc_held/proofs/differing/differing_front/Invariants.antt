use Rattle.std.proofs.Common.{◌-◌, ◌≤◌, length}
use Rattle.tc_held.proofs.differing.differing_front.Given as goal

abbrev pub invariant-loop-n : goal.invariant-loop-n
invariant-loop-n l = record {
  most : l.n ≤ length l.a;
}

abbrev pub decreases-loop-n : goal.decreases-loop-n
decreases-loop-n l = length l.a - l.n
