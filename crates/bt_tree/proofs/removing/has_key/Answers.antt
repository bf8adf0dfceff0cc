use Rattle.bt_rows.specs.Orders.{before_by}
use Rattle.bt_rows.proofs.Ordered.{orders_are_strict}
use Rattle.bt_tree.proofs.Removes.{has_hit}
use Rattle.bt_tree.proofs.removing.has_key.Goals as goal

pub returns : goal.returns
returns g c = λ ps l.
    let s = c.spot.ensures.spot in
    has_hit (before_by g.O.Order.cmp) (orders_are_strict g.O.Order.cmp g.met.O.Order.total g.met.O.Order.exact) c.args.key.now ps c.args.leaf.now c.spot.result.0 c.spot.result.1 (s l.ascends) l
