use Rattle.std.proofs.Common.{◌≡◌, ◌<◌, ◌≤◌, ℕ, length, true, false, get_or}
use Rattle.ud_log.specs.Undo.{is_data, place_of}
use Rattle.ud_state.specs.Since.{Calm, Quiet}
use Rattle.ud_state.specs.State.{Durable, SyncOnly}
use Rattle.tc_undo.specs.Volumes.{StaysBound}
use Rattle.tc_undo.proofs.syncs.sync_marked.Given as goal

abbrev pub invariant-loop-i : goal.invariant-loop-i
invariant-loop-i g l = record {
  quiet : g.V.Volume.tells → Calm (g.V.Volume.calls l.initial.vol) → Quiet (g.V.Volume.calls l.initial.vol) (g.V.Volume.calls l.vol);
  synced : g.V.Volume.tells → SyncOnly (g.V.Volume.calls l.initial.vol) (g.V.Volume.calls l.vol);
  grows : g.V.Volume.tells → length (g.V.Volume.calls l.initial.vol) ≤ length (g.V.Volume.calls l.vol);
  there : g.V.Volume.tells → (f : ℕ) → is_data f ≡ true → place_of f < l.i → (get_or l.marked (place_of f) false ≡ false → Durable (g.V.Volume.calls l.initial.vol) f) → Durable (g.V.Volume.calls l.vol) f;
  stays : StaysBound g.V.Volume l.initial.vol l.vol;
}
