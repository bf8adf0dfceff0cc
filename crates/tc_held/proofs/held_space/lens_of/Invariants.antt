use Rattle.std.proofs.Common.{◌≡◌, ◌<◌, ℕ, true, length}
use Rattle.ud_log.specs.Undo.{is_data, place_of, length_of}
use Rattle.tc_held.proofs.held_space.lens_of.Given as goal

abbrev pub invariant-loop-i : goal.invariant-loop-i
invariant-loop-i g l = record {
  lens : g.S.Space.tells → (f : ℕ) → is_data f ≡ true → place_of f < l.i → length_of l.lens f ≡ length (g.S.Space.now l.space f);
  long : length l.lens ≡ 18;
}
