use Rattle.std.proofs.Common.{◌≡◌}
use Rattle.tc_model.proofs.Paired.{laid}
use Rattle.tc_model.proofs.reading.pairs.Given as goal

abbrev pub invariant-loop-text : goal.invariant-loop-text
invariant-loop-text l = l.yielded ≡ laid l.found.items l.front
