use Rattle.std.proofs.Common.{false, true, Option, refl, subst}
use Rattle.bt_page.specs.declared.page.Item.{Item}
use Rattle.bt_rows.proofs.Ordered.{orders_are_strict}
use Rattle.bt_rows.specs.Orders.{before_by}
use Rattle.bt_slots.proofs.Places.{some_at}
use Rattle.bt_tree.proofs.Finds.{found_none, found_some}
use Rattle.bt_tree.specs.Showing.{ShownOf}
use Rattle.bt_tree.proofs.showing.show_found.Goals as goal

pub returns-then-not-hit-clause-shown : goal.returns-then-not-hit-clause-shown
returns-then-not-hit-clause-shown g c = λ ps l.
    let order = orders_are_strict g.O.Order.cmp g.met.O.Order.total g.met.O.Order.exact in
    let s = rw c.if-not-hit.true at c.spot-place.ensures.spot in
    subst (λ (o : Option Item). ShownOf g.T.Taker.takes o false c.args.taker.now c.args.taker.now) (found_none (before_by g.O.Order.cmp) order c.args.key.now ps c.args.leaf.now c.spot-place.result.0 l s) (refl, refl)

pub returns-then-not-hit-clause-stays : goal.returns-then-not-hit-clause-stays
returns-then-not-hit-clause-stays g c = g.met.T.Taker.stays_refl c.args.taker.now

pub returns-clause-shown : goal.returns-clause-shown
returns-clause-shown g c = λ ps l.
    let order = orders_are_strict g.O.Order.cmp g.met.O.Order.total g.met.O.Order.exact in
    let s = rw c.if-not-hit.false at c.spot-place.ensures.spot in
    let x = some_at c.args.leaf.now.items c.spot-place.result.0 (c.spot-place.ensures.inside c.if-not-hit.false) in
    subst (λ (o : Option Item). ShownOf g.T.Taker.takes o true c.args.taker.now c.show_place.new.taker) (found_some (before_by g.O.Order.cmp) order c.args.key.now ps c.args.leaf.now c.spot-place.result.0 l x.0 s x.1)
    (refl, c.in_ok-_more._more, c.in_ok-_more.ensures.shown x.0 x.1)
