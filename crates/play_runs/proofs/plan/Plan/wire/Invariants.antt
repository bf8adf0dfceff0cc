use Rattle.std.proofs.Common.{◌≡◌, false}
use Rattle.play_runs.proofs.plan.Plan.wire.Given as goal

abbrev pub invariant-loop-step : goal.invariant-loop-step
invariant-loop-step l = l.wire.opened ≡ false
