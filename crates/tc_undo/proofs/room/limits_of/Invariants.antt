use Rattle.std.proofs.Common.{◌≡◌, ◌<◌, ℕ, true, length, get_or, max}
use Rattle.ud_log.specs.Undo.{all_short}
use Rattle.tc_undo.proofs.room.limits_of.Given as goal

abbrev pub invariant-loop-i : goal.invariant-loop-i
invariant-loop-i l = record {
  each : (k : ℕ) → k < l.i → get_or l.limits k 0 ≡ max l.limit (get_or l.lens k 0);
  short : all_short l.limits ≡ true;
  long : length l.limits ≡ 18;
}
