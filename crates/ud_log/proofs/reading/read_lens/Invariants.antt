use Rattle.std.proofs.Common.{◌≡◌, ◌+◌, ◌*◌, ◌<◌, ℕ, length, take, drop, get_or}
use Rattle.ud_log.specs.Log.{number}
use Rattle.ud_log.proofs.reading.read_lens.Given as goal

abbrev pub invariant-loop-i : goal.invariant-loop-i
invariant-loop-i l = record {
  each : (k : ℕ) → k < l.i → get_or l.lens k 0 ≡ number (take 8 (drop (8 + 8 * k) l.head));
  long : length l.lens ≡ 18;
}
