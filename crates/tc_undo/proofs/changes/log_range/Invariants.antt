use Rattle.std.proofs.Common.{◌≤◌, ◌+◌, ◌-◌, ◌^◌, max}
use Rattle.tc_undo.specs.Ahead.{Waits, ahead}
use Rattle.tc_undo.specs.Changes.{Logs}
use Rattle.tc_undo.specs.Guards.{Grows}
use Rattle.tc_undo.specs.Room.{needs}
use Rattle.tc_undo.specs.Volumes.{StaysQuiet}
use Rattle.tc_undo.proofs.changes.log_range.Given as goal

abbrev pub invariant-loop-place : goal.invariant-loop-place
invariant-loop-place g l = record {
  low : l.at ≤ l.place;
  high : l.place ≤ max l.at l.stop;
  quiet : StaysQuiet g.V.Volume l.initial.vol l.vol;
  logs : g.V.Volume.tells → Logs (ahead (g.V.Volume.calls l.initial.vol) l.initial.waiting) (ahead (g.V.Volume.calls l.vol) l.waiting) l.recorded l.file l.at l.place l.size;
  grows : g.V.Volume.tells → Grows (ahead (g.V.Volume.calls l.initial.vol) l.initial.waiting) (ahead (g.V.Volume.calls l.vol) l.waiting) l.recorded l.file l.at l.place;
  waits : g.V.Volume.tells → Waits (g.V.Volume.calls l.vol) l.waiting l.size;
  room : l.size + needs (l.stop - l.place) ≤ 2 ^ 62;
  spent : l.size + needs (l.stop - l.place) ≤ l.end + needs (l.stop - l.at);
}

abbrev pub decreases-loop-place : goal.decreases-loop-place
decreases-loop-place g l = l.stop - l.place
