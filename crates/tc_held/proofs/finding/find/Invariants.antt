use Rattle.std.proofs.Common.{◌-◌}
use Rattle.tc_held.proofs.Ascending.{Halves}
use Rattle.tc_held.proofs.finding.find.Given as goal

abbrev pub invariant-loop-low : goal.invariant-loop-low
invariant-loop-low l = Halves l.file l.at l.pieces l.low l.high

abbrev pub decreases-loop-low : goal.decreases-loop-low
decreases-loop-low l = l.high - l.low
