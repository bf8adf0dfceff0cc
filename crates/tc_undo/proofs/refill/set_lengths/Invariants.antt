use Rattle.std.proofs.Common.{◌≡◌, ◌≤◌, ◌<◌, ℕ, List, true}
use Rattle.tc_base.specs.Files.{Files, resized}
use Rattle.tc_io.specs.Images.{now, of}
use Rattle.ud_log.specs.Entries.{Entry}
use Rattle.ud_log.specs.Undo.{is_data, place_of, length_of}
use Rattle.ud_state.specs.Since.{Quiet}
use Rattle.ud_state.specs.State.{Replay}
use Rattle.tc_undo.specs.Found.{FilesOnDisk}
use Rattle.tc_undo.specs.Volumes.{StaysBound}
use Rattle.tc_undo.proofs.refill.set_lengths.Given as goal

abbrev pub invariant-loop-i : goal.invariant-loop-i
invariant-loop-i g l = record {
  quiet : g.V.Volume.tells → (files : Files) (es : List Entry) → Replay (g.V.Volume.calls l.initial.vol) files l.lens es → FilesOnDisk (g.V.Volume.calls l.initial.vol) → Quiet (g.V.Volume.calls l.initial.vol) (g.V.Volume.calls l.vol);
  replay : g.V.Volume.tells → (files : Files) (es : List Entry) → Replay (g.V.Volume.calls l.initial.vol) files l.lens es → FilesOnDisk (g.V.Volume.calls l.initial.vol) → Replay (g.V.Volume.calls l.vol) files l.lens es;
  reads : g.V.Volume.tells → (f : ℕ) → is_data f ≡ true → place_of f < l.i → now (g.V.Volume.calls l.vol) f ≡ resized (length_of l.lens f) (now (g.V.Volume.calls l.initial.vol) f);
  others : g.V.Volume.tells → (f : ℕ) → is_data f ≡ true → l.i ≤ place_of f → of f (g.V.Volume.calls l.vol) ≡ of f (g.V.Volume.calls l.initial.vol);
  log : g.V.Volume.tells → of 1 (g.V.Volume.calls l.vol) ≡ of 1 (g.V.Volume.calls l.initial.vol);
  stays : StaysBound g.V.Volume l.initial.vol l.vol;
}
