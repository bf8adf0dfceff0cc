use Rattle.std.proofs.Common.{◌≤◌}
use Rattle.tc_model.specs.Arrays.{Array}
use Rattle.tc_space.specs.Frames.{OnlyReads}
use Rattle.tc_reach.specs.Windows.{Shows}
use Rattle.tc_fixed.specs.Cells.{HasCellsOf}
use Rattle.tc_fixed.proofs.Ended.{NoneBehind}
use Rattle.tc_fixed.proofs.scanning.last_held.Given as goal

abbrev pub invariant-loop-id : goal.invariant-loop-id
invariant-loop-id g l = record {
  high : l.id ≤ l.to;
  reads : OnlyReads g.S.Space l.initial.space l.space;
  shows : g.S.Space.tells → Shows l.window (g.S.Space.now l.initial.space 0);
  none : g.S.Space.tells → (m : Array) → HasCellsOf l.width l.to m (g.S.Space.now l.initial.space 0) → NoneBehind m l.id l.to;
}

abbrev pub decreases-loop-id : goal.decreases-loop-id
decreases-loop-id g l = l.id
