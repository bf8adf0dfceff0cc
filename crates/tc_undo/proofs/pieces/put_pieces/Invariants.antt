use Rattle.std.proofs.Common.{◌≤◌, ◌-◌, length, take}
use Rattle.tc_undo.specs.Guards.{PutsRun}
use Rattle.tc_undo.specs.Volumes.{StaysQuiet}
use Rattle.tc_undo.proofs.pieces.put_pieces.Given as goal

abbrev pub invariant-loop-i : goal.invariant-loop-i
invariant-loop-i g l = record {
  low : l.i ≤ length l.pieces;
  quiet : StaysQuiet g.V.Volume l.initial.vol l.vol;
  puts : PutsRun g.V.Volume.tells (g.V.Volume.calls l.initial.vol) (g.V.Volume.calls l.vol) l.initial.log l.log l.initial.lens l.lens l.bytes (take l.i l.pieces);
}

abbrev pub decreases-loop-i : goal.decreases-loop-i
decreases-loop-i g l = length l.pieces - l.i
