use Rattle.std.proofs.Common.{◌≡◌, ◌≤◌, ◌-◌, take, length}
use Rattle.tc_undo.specs.Runs.{IsRun}
use Rattle.tc_undo.proofs.runs.join.Given as goal

abbrev pub invariant-loop-run : goal.invariant-loop-run
invariant-loop-run l = record {
  count : l.run.count ≤ length l.pieces;
  size : l.run.size ≤ 16384;
  long : length l.room ≡ 16384;
  is : IsRun l.bytes (take l.run.count l.pieces) l.first.file l.first.at (take l.run.size l.room);
}

abbrev pub decreases-loop-run : goal.decreases-loop-run
decreases-loop-run l = length l.pieces - l.run.count
