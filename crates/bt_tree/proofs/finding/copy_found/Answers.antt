use Rattle.bt_rows.specs.Orders.{before_by}
use Rattle.bt_rows.proofs.Ordered.{orders_are_strict}
use Rattle.bt_tree.proofs.Finds.{found_none, found_some}
use Rattle.bt_tree.proofs.finding.copy_found.Goals as goal

pub returns-then-not-hit : goal.returns-then-not-hit
returns-then-not-hit g c = λ ps l.
    let order = orders_are_strict g.O.Order.cmp g.met.O.Order.total g.met.O.Order.exact in
    let s = rw c.if-not-hit.true at c.spot-place.ensures.spot in
    found_none (before_by g.O.Order.cmp) order c.args.key.now ps c.args.leaf.now c.spot-place.result.0 l s

pub returns : goal.returns
returns g c = λ ps l.
    let order = orders_are_strict g.O.Order.cmp g.met.O.Order.total g.met.O.Order.exact in
    let s = rw c.if-not-hit.false at c.spot-place.ensures.spot in
    found_some (before_by g.O.Order.cmp) order c.args.key.now ps c.args.leaf.now c.spot-place.result.0 l c.in_ok-item.field-0 s c.in_ok-item.ensures
