use Rattle.std.proofs.Common.{◌≡◌, ◌<◌, ℕ, length, get_or}
use Rattle.ud_log.specs.Log.{magic}
use Rattle.ud_log.proofs.tests.begins_well.Given as goal

abbrev pub invariant-loop-i : goal.invariant-loop-i
invariant-loop-i l = (k : ℕ) → k < l.i → k < length l.bytes → get_or l.bytes k 0 ≡ get_or magic k 0
