use Rattle.std.proofs.Common.{◌≡◌, ◌-◌, ◌≤◌, ◌++◌, replicate}
use Rattle.tc_reach.proofs.zeros.append_zeros.Given as goal

abbrev pub invariant-loop-rest : goal.invariant-loop-rest
invariant-loop-rest l = (l.into ≡ l.initial.into ++ replicate (l.count - l.rest) 0) × (l.rest ≤ l.count)

abbrev pub decreases-loop-rest : goal.decreases-loop-rest
decreases-loop-rest l = l.rest
