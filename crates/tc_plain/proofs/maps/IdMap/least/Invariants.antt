use Rattle.std.proofs.Common.{◌≡◌}
use Rattle.tc_plain.proofs.maps.IdMap.least.Given as goal

abbrev pub invariant-loop-id : goal.invariant-loop-id
invariant-loop-id l = l.id-iterator ≡ l.initial.id-iterator
