use Rattle.std.proofs.Common.{◌≡◌, ◌<◌, ℕ, true, length}
use Rattle.tc_io.specs.Images.{now}
use Rattle.ud_log.specs.Undo.{is_data, place_of, length_of}
use Rattle.tc_undo.specs.Volumes.{OnlyReads}
use Rattle.tc_undo.proofs.scan.lens_of_data.Given as goal

abbrev pub invariant-loop-i : goal.invariant-loop-i
invariant-loop-i g l = record {
  reads : OnlyReads g.V.Volume l.initial.vol l.vol;
  lens : g.V.Volume.tells → (f : ℕ) → is_data f ≡ true → place_of f < l.i → length_of l.lens f ≡ length (now (g.V.Volume.calls l.initial.vol) f);
  long : length l.lens ≡ 18;
}
