use Rattle.bt_rows.proofs.Ordered.{orders_are_strict}
use Rattle.bt_rows.specs.Orders.{before_by}
use Rattle.std.proofs.Common.{arith}
use Rattle.bt_tree.proofs.Revalues.{place_none, place_past, place_there}
use Rattle.bt_tree.proofs.valuing.item_with.Goals as goal

pub returns-then-not-hit : goal.returns-then-not-hit
returns-then-not-hit g c =
    λ ps l. place_none (before_by g.O.Order.cmp) (orders_are_strict g.O.Order.cmp g.met.O.Order.total g.met.O.Order.exact) c.args.key.now ps c.args.leaf.now c.spot-at.result.0 c.args.place l ((rw c.if-not-hit.true at c.spot-at.ensures.spot) l.ascends)

pub returns-then-place-many : goal.returns-then-place-many
returns-then-place-many g c =
    λ ps l. place_past (before_by g.O.Order.cmp) (orders_are_strict g.O.Order.cmp g.met.O.Order.total g.met.O.Order.exact) c.args.key.now ps c.args.leaf.now c.spot-at.result.0 c.args.place l ((rw c.if-not-hit.false at c.spot-at.ensures.spot) l.ascends) c.count-many.result c.count-many.ensures (omega (arith, c.if-place-many.true))

pub returns : goal.returns
returns g c =
    λ ps l. place_there (before_by g.O.Order.cmp) (orders_are_strict g.O.Order.cmp g.met.O.Order.total g.met.O.Order.exact) c.args.key.now ps c.args.leaf.now c.spot-at.result.0 c.args.place l ((rw c.if-not-hit.false at c.spot-at.ensures.spot) l.ascends) c.count-many.result c.count-many.ensures (omega (arith, c.if-place-many.false))
