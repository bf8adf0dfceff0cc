use Rattle.std.proofs.Common.{◌-◌, true, Option, refl, subst, arith}
use Rattle.bt_page.specs.declared.page.Item.{Item}
use Rattle.bt_rows.proofs.Ordered.{orders_are_strict}
use Rattle.bt_slots.proofs.Places.{some_at}
use Rattle.bt_tree.specs.Showing.{ShownOf}
use Rattle.bt_tree.proofs.Ends.{below_at, below_none}
use Rattle.bt_tree.proofs.showing.show_below.Goals as goal

pub returns-then-place-eq0-clause-front : goal.returns-then-place-eq0-clause-front
returns-then-place-eq0-clause-front g c =
    let order = orders_are_strict g.O.Order.cmp g.met.O.Order.total g.met.O.Order.exact in
    record {
      none = λ asc. below_none g.O.Order.cmp order c.args.key.now c.args.leaf.now.items c.spot-place.result.0 c.spot-place.result.1 asc (c.spot-place.ensures.spot asc) c.if-place-eq0.true;
      front = c.prev.ensures;
      same = refl;
    }

pub returns-then-place-eq0-clause-stays : goal.returns-then-place-eq0-clause-stays
returns-then-place-eq0-clause-stays g c = g.met.T.Taker.stays_refl c.args.taker.now

pub returns-clause-here : goal.returns-clause-here
returns-clause-here g c = λ asc.
    let order = orders_are_strict g.O.Order.cmp g.met.O.Order.total g.met.O.Order.exact in
    let x = some_at c.args.leaf.now.items (c.spot-place.result.0 - 1) (omega (arith, c.if-place-eq0.false, c.spot-place.ensures.within)) in
    subst (λ (o : Option Item). ShownOf g.T.Taker.takes o true c.args.taker.now c.show_place.new.taker)
    (below_at g.O.Order.cmp order c.args.key.now c.args.leaf.now.items c.spot-place.result.0 c.spot-place.result.1 x.0 asc (c.spot-place.ensures.spot asc) c.if-place-eq0.false x.1)
    (refl, c.in_ok-_more._more, c.in_ok-_more.ensures.shown x.0 x.1)
