use Rattle.std.proofs.Common.{◌≡◌, ◌≤◌, ◌-◌, length}
use Rattle.tc_io.specs.Images.{now}
use Rattle.ud_state.specs.State.{Filled, FillsQuietly}
use Rattle.tc_undo.specs.Volumes.{StaysBound}
use Rattle.tc_undo.proofs.refill.fill.Given as goal

abbrev pub invariant-loop-place : goal.invariant-loop-place
invariant-loop-place g l = record {
  low : l.from ≤ l.place;
  high : l.place ≤ l.len;
  quiet : g.V.Volume.tells → FillsQuietly (g.V.Volume.calls l.initial.vol) (g.V.Volume.calls l.vol) l.file l.from;
  filled : g.V.Volume.tells → Filled (g.V.Volume.calls l.initial.vol) (g.V.Volume.calls l.vol) l.file l.from l.place;
  end : g.V.Volume.tells → length (now (g.V.Volume.calls l.vol) l.file) ≡ l.place;
  stays : StaysBound g.V.Volume l.initial.vol l.vol;
}

abbrev pub decreases-loop-place : goal.decreases-loop-place
decreases-loop-place g l = l.len - l.place
