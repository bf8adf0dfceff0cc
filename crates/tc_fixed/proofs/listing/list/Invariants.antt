use Rattle.std.proofs.Common.{◌-◌, ◌≤◌, length}
use Rattle.tc_model.specs.Arrays.{Array}
use Rattle.tc_space.specs.Frames.{OnlyReads}
use Rattle.tc_reach.specs.Windows.{Shows}
use Rattle.tc_fixed.specs.Cells.{HasCellsOf}
use Rattle.tc_fixed.proofs.Listed.{AreSoFar}
use Rattle.tc_fixed.proofs.listing.list.Given as goal

abbrev pub invariant-loop-id : goal.invariant-loop-id
invariant-loop-id g l = record {
  on : l.from ≤ l.id;
  more : length l.initial.into.items ≤ length l.into.items;
  reads : OnlyReads g.S.Space l.initial.space l.space;
  shows : g.S.Space.tells → Shows l.window (g.S.Space.now l.initial.space 0);
  so : g.S.Space.tells → (m : Array) → HasCellsOf l.width (l.to - 1) m (g.S.Space.now l.initial.space 0) → AreSoFar m l.from l.id l.to l.most l.initial.into.items l.into.items;
}

abbrev pub decreases-loop-id : goal.decreases-loop-id
decreases-loop-id g l = l.to - l.id
