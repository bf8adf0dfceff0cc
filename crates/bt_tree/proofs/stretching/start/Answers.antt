use Rattle.bt_tree.proofs.Cuts.{items_cut, start_cut}
use Rattle.bt_tree.proofs.stretching.start.Goals as goal

pub returns-clause-start : goal.returns-clause-start
returns-clause-start g c = λ rise.
    let side = g.C.Cut.side_of c.args.cut.now in
    let point = c.items_in_front.ensures.parted (items_cut g.O.Order.cmp g.met.O.Order.total g.met.O.Order.exact side (g.met.C.Cut.never_falls c.args.cut.now) c.args.leaf.now.items rise) in
    start_cut side c.args.leaf.now.items _ c.items_in_front.ensures.within point
