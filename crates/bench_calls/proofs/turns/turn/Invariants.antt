use Rattle.std.proofs.Common.{◌≡◌, true}
use Rattle.bench_calls.proofs.turns.turn.Given as goal

abbrev pub invariant-loop-i : goal.invariant-loop-i
invariant-loop-i l = l.space.sound ≡ true
