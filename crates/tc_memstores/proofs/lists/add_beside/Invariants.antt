use Rattle.std.proofs.Common.{◌≡◌, ◌++◌, drop}
use Rattle.std.specs.Prelude.{filter}
use Rattle.tc_memstores.specs.Sides.{is_wanted}
use Rattle.tc_memstores.proofs.lists.add_beside.Given as goal

abbrev pub invariant-loop-pair : goal.invariant-loop-pair
invariant-loop-pair g l = l.into ++ filter (λ p. is_wanted l.above (g.O.Order.cmp p.key l.key)) (drop l.pair-index l.pairs) ≡ l.fn.into ++ filter (λ p. is_wanted l.above (g.O.Order.cmp p.key l.key)) l.pairs
