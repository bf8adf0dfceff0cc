use Rattle.std.proofs.Common.{arith}
use Rattle.bt_rows.specs.Orders.{before_by}
use Rattle.bt_rows.proofs.Ordered.{orders_are_strict}
use Rattle.bt_ways.proofs.Spots.{items_parted, place_of, spot_end, spot_compared}
use Rattle.bt_tree.proofs.searching.spot.Goals as goal

pub returns-then-place-len-clause-spot : goal.returns-then-place-len-clause-spot
returns-then-place-len-clause-spot g c = λ rise.
    let order = orders_are_strict g.O.Order.cmp g.met.O.Order.total g.met.O.Order.exact in
    let point = c.items_in_front-place.ensures.parted (items_parted (before_by g.O.Order.cmp) order c.args.key.now c.args.leaf.now.items rise) in
    spot_end (before_by g.O.Order.cmp) order c.args.key.now c.args.leaf.now.items _ (omega (arith, c.if-place-len.true, c.len.ensures)) (place_of (before_by g.O.Order.cmp) c.args.key.now c.args.leaf.now.items _ point)

pub returns-clause-spot : goal.returns-clause-spot
returns-clause-spot g c = λ rise.
    let order = orders_are_strict g.O.Order.cmp g.met.O.Order.total g.met.O.Order.exact in
    let point = c.items_in_front-place.ensures.parted (items_parted (before_by g.O.Order.cmp) order c.args.key.now c.args.leaf.now.items rise) in
    spot_compared (before_by g.O.Order.cmp) order c.args.key.now c.args.leaf.now.items _ _ c.key.result.now (omega (arith, c.if-place-len.false, c.len.ensures, c.items_in_front-place.ensures.within)) c.key.ensures c.eq.ensures (place_of (before_by g.O.Order.cmp) c.args.key.now c.args.leaf.now.items _ point)
