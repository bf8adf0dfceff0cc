use Rattle.bt_rows.specs.Orders.{before_by}
use Rattle.bt_rows.proofs.Ordered.{orders_are_strict}
use Rattle.bt_ways.proofs.Spots.{entries_parted, route_of}
use Rattle.bt_tree.proofs.searching.route.Goals as goal

pub returns-clause-route : goal.returns-clause-route
returns-clause-route g c = λ rise.
    let order = orders_are_strict g.O.Order.cmp g.met.O.Order.total g.met.O.Order.exact in
    let point = c.entries_in_front.ensures.parted (entries_parted (before_by g.O.Order.cmp) order c.args.key.now c.args.node.now.entries rise) in
    route_of (before_by g.O.Order.cmp) order c.args.key.now c.args.node.now.entries _ c.entries_in_front.ensures.within point
