use Rattle.std.proofs.Common.{◌≡◌, ◌-◌, ◌≤◌, length, take}
use Rattle.tc_held.proofs.differing.alike_front.Given as goal

abbrev pub invariant-loop-n : goal.invariant-loop-n
invariant-loop-n l = record {
  most : l.n ≤ length l.a;
  same : take l.n l.a ≡ take l.n l.b;
}

abbrev pub decreases-loop-n : goal.decreases-loop-n
decreases-loop-n l = length l.a - l.n
