use Rattle.std.proofs.Common.{ℕ, List}
use Rattle.tc_base.specs.Files.{Files}
use Rattle.tc_io.specs.Images.{now}
use Rattle.ud_log.specs.Log.{entries}
use Rattle.ud_state.specs.Since.{Quiet}
use Rattle.ud_state.specs.State.{Replay}
use Rattle.ud_state.proofs.PuttingBack.{Restores}
use Rattle.tc_undo.specs.Volumes.{StaysBound}
use Rattle.tc_undo.proofs.put_back.put_back_all.Given as goal

abbrev pub invariant-loop-at : goal.invariant-loop-at
invariant-loop-at g l = record {
  quiet : g.V.Volume.tells → (files : Files) (lens : List ℕ) → Replay (g.V.Volume.calls l.initial.vol) files lens (entries (now (g.V.Volume.calls l.initial.vol) 1)) → Quiet (g.V.Volume.calls l.initial.vol) (g.V.Volume.calls l.vol);
  restores : g.V.Volume.tells → Restores (g.V.Volume.calls l.initial.vol) (g.V.Volume.calls l.vol) l.at;
  stays : StaysBound g.V.Volume l.initial.vol l.vol;
}

abbrev pub decreases-loop-at : goal.decreases-loop-at
decreases-loop-at g l = l.at
