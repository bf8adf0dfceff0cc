use Rattle.std.proofs.Common.{◌≡◌, true}
use Rattle.steps.proofs.trees.play_looking.Given as goal

abbrev pub invariant-loop : goal.invariant-loop
invariant-loop g l = l.space.sound ≡ true
