use Rattle.std.proofs.Common.{◌≡◌}
use Rattle.std.specs.Prelude.{None, unwrap_or}
use Rattle.std.specs.List.{last_or}
use Rattle.tc_plain.proofs.Ends.{last_behind}
use Rattle.tc_plain.proofs.maps.IdMap.greatest.Given as goal

abbrev pub invariant-loop-id : goal.invariant-loop-id
invariant-loop-id l = last_behind l.last l.id-iterator ≡ unwrap_or (last_or None l.initial.id-iterator) 0
