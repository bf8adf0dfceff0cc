use Rattle.std.proofs.Common.{rules, ◌≡◌, Some, ◌∙◌}
use Rattle.bt_rows.specs.Orders.{before_by}
use Rattle.bt_rows.proofs.Ordered.{orders_are_strict}
use Rattle.bt_ways.proofs.Spots.{item_of_place}
use Rattle.bt_tree.proofs.Finds.{first_none, first_some}
use Rattle.bt_tree.proofs.finding.copy_first.Goals as goal

pub returns-then-not-hit : goal.returns-then-not-hit
returns-then-not-hit g c = λ ps l.
    let order = orders_are_strict g.O.Order.cmp g.met.O.Order.total g.met.O.Order.exact in
    let s = rw c.if-not-hit.true at c.spot-place.ensures.spot in
    first_none (before_by g.O.Order.cmp) order c.args.key.now ps c.args.leaf.now c.spot-place.result.0 l s

pub returns : goal.returns
returns g c = λ ps l.
    let order = orders_are_strict g.O.Order.cmp g.met.O.Order.total g.met.O.Order.exact in
    let s = rw c.if-not-hit.false at c.spot-place.ensures.spot in
    let x = item_of_place c.args.leaf.now.items c.spot-place.result.0 (c.spot-place.ensures.inside c.if-not-hit.false) in
    let copy : Some c.in_ok-from_slice.field-0 ≡ Some c.first_value.result.now = search rules in
    copy ∙ c.first_value.ensures x.0 x.1 ∙ first_some (before_by g.O.Order.cmp) order c.args.key.now ps c.args.leaf.now c.spot-place.result.0 l x.0 s x.1
