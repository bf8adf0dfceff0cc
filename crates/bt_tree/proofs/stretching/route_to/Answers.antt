use Rattle.bt_tree.proofs.Cuts.{entries_cut, route_cut}
use Rattle.bt_tree.proofs.stretching.route_to.Goals as goal

pub returns-clause-route : goal.returns-clause-route
returns-clause-route g c = λ rise.
    let side = g.C.Cut.side_of c.args.cut.now in
    let point = c.entries_in_front.ensures.parted (entries_cut g.O.Order.cmp g.met.O.Order.total g.met.O.Order.exact side (g.met.C.Cut.never_falls c.args.cut.now) c.args.node.now.entries rise) in
    route_cut side c.args.node.now.entries _ c.entries_in_front.ensures.within point
