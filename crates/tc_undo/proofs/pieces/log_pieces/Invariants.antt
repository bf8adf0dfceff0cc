use Rattle.std.proofs.Common.{◌≤◌, ◌+◌, take, drop}
use Rattle.tc_undo.specs.Ahead.{Waits, ahead}
use Rattle.tc_undo.specs.Guards.{LogsAll}
use Rattle.tc_undo.specs.Pieces.{needs_all}
use Rattle.tc_undo.specs.Volumes.{StaysQuiet}
use Rattle.tc_undo.proofs.pieces.log_pieces.Given as goal

abbrev pub invariant-loop-i : goal.invariant-loop-i
invariant-loop-i g l = record {
  quiet : StaysQuiet g.V.Volume l.initial.vol l.vol;
  logs : g.V.Volume.tells → LogsAll (ahead (g.V.Volume.calls l.initial.vol) l.initial.waiting) (ahead (g.V.Volume.calls l.vol) l.waiting) l.recorded (take l.i l.pieces) l.size;
  waits : g.V.Volume.tells → Waits (g.V.Volume.calls l.vol) l.waiting l.size;
  room : l.size + needs_all (drop l.i l.pieces) ≤ l.end + needs_all l.pieces;
}
