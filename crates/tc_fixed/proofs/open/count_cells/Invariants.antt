use Rattle.std.proofs.Common.{◌+◌, ◌-◌, ◌≤◌}
use Rattle.tc_space.specs.Frames.{OnlyReads}
use Rattle.tc_reach.specs.Windows.{Shows}
use Rattle.tc_fixed.specs.Opening.{IsCountedTo}
use Rattle.tc_fixed.proofs.open.count_cells.Given as goal

abbrev pub invariant-loop-id : goal.invariant-loop-id
invariant-loop-id g l = record {
  some : 1 ≤ l.id;
  high : l.id ≤ l.head.greatest + 1;
  reads : OnlyReads g.S.Space l.initial.space l.space;
  shows : g.S.Space.tells → Shows l.window (g.S.Space.now l.initial.space 0);
  so : g.S.Space.tells → IsCountedTo l.head.width (l.id - 1) l.tally (g.S.Space.now l.initial.space 0);
}

abbrev pub decreases-loop-id : goal.decreases-loop-id
decreases-loop-id g l = l.head.greatest + 1 - l.id
