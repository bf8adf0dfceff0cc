use Rattle.std.proofs.Common.{ap, arith, drop}
use Rattle.bt_page.specs.declared.page.Leaf.{Leaf}
use Rattle.bt_rows.proofs.Ordered.{orders_are_strict}
use Rattle.bt_ways.proofs.Spots.{item_of_place}
use Rattle.bt_ways.proofs.Taking.{taken_first, taken_none, taken_whole}
use Rattle.bt_tree.proofs.Revaluings.{same_links}
use Rattle.bt_tree.proofs.taking.take_value.Goals as goal

pub returns-then-not-hit-clause-taken : goal.returns-then-not-hit-clause-taken
returns-then-not-hit-clause-taken g c = λ are.
    let order = orders_are_strict g.O.Order.cmp g.met.O.Order.total g.met.O.Order.exact in
    let spot = rw c.if-not-hit.true at c.spot-place.ensures.spot in
    taken_none g.O.Order.cmp g.met.O.Order.total order c.args.all c.args.key.now c.args.leaf.items _ are (spot are.ascends)

pub returns-then-values-gt1-clause-taken : goal.returns-then-values-gt1-clause-taken
returns-then-values-gt1-clause-taken g c = λ are.
    let order = orders_are_strict g.O.Order.cmp g.met.O.Order.total g.met.O.Order.exact in
    let spot = rw c.if-not-hit.false at c.spot-place.ensures.spot in
    let x = item_of_place c.args.leaf.items _ (c.spot-place.ensures.inside c.if-not-hit.false) in
    taken_first g.O.Order.cmp g.met.O.Order.total order c.args.all c.args.key.now c.args.leaf.items _ are x.0 x.1 (spot are.ascends) _
    (ap (λ (l : Leaf). l.items) (c.in_ok-without_first.ensures x.0 x.1))
    c.if-not-all.true (omega (arith, c.count-values.ensures x.0 x.1, c.if-values-gt1.true))

pub returns-then-values-gt1-clause-links : goal.returns-then-values-gt1-clause-links
returns-then-values-gt1-clause-links g c = same_links (drop 1) _ c.args.leaf _ (c.spot-place.ensures.inside c.if-not-hit.false) c.in_ok-without_first.ensures

pub returns-clause-taken : goal.returns-clause-taken
returns-clause-taken g c = λ are.
    let order = orders_are_strict g.O.Order.cmp g.met.O.Order.total g.met.O.Order.exact in
    let spot = rw c.if-not-hit.false at c.spot-place.ensures.spot in
    let x = item_of_place c.args.leaf.items _ (c.spot-place.ensures.inside c.if-not-hit.false) in
    taken_whole g.O.Order.cmp g.met.O.Order.total order c.args.all c.args.key.now c.args.leaf.items _ are x.0 x.1 (spot are.ascends) _ _
    (ap (λ (l : Leaf). l.items) c.in_ok-without_item.ensures) (c.count-values.ensures x.0 x.1) c.else-not-all.either
