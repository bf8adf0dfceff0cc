use Rattle.std.proofs.Common.{◌≡◌, false}
use Rattle.play_runs.proofs.plan.answer.Given as goal

abbrev pub invariant-loop-number : goal.invariant-loop-number
invariant-loop-number l = l.wire.opened ≡ false
