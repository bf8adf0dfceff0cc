use Rattle.std.proofs.Common.{◌≡◌, drop}
use Rattle.std.specs.List.{list_all}
use Rattle.tc_tabledb.specs.Storing.{is_stored}
use Rattle.tc_tabledb.proofs.storing.are_stored.Given as goal

abbrev pub invariant-loop-pair : goal.invariant-loop-pair
invariant-loop-pair l = list_all (λ p. is_stored p.value) (drop l.pair-index l.pairs) ≡ list_all (λ p. is_stored p.value) l.pairs
