use Rattle.std.proofs.Common.{◌<◌, ◌^◌, refl, arith}
use Rattle.bt_tree.proofs.Descents.{descends_start, store_ready, node_there, descends_more, descends_stop, descends_deep, descends_end, descends_done}
use Rattle.bt_tree.proofs.tree.Tree.descend.Goals as goal

pub loop-i-init : goal.loop-i-init
loop-i-init g c = descends_start _ _ _ _ _ c.args.self.now _ _ _ _ c.requires.sound (record { head = refl; height = refl; column = refl }) refl refl c.clear.ensures

pub node-requires-clause-ready : goal.node-requires-clause-ready
node-requires-clause-ready g c = store_ready _ _ _ _ _ _ _ _ _ _ _ _ _ _ c.loop-i.invariant c.requires

pub node-requires-clause-there : goal.node-requires-clause-there
node-requires-clause-there g c = node_there _ _ _ _ _ _ _ _ _ _ _ _ _ _ c.loop-i.invariant c.requires c.loop-i-test.true

pub loop-i-preserved : goal.loop-i-preserved
loop-i-preserved g c =
    let small : c.loop-i.steps < 2 ^ 64 = omega (arith, c.count-counted.type_inv, c.count-counted.ensures) in
    descends_more _ _ _ _ _ _ _ _ _ _ _ _ _ _ c.loop-i.invariant _ _ _ _ _ c.route-place.result c.in_ok-node.node.value c.loop-i-test.true small c.in_ok-node.ensures.looks c.in_ok-node.ensures.counts
    (record { head = refl; height = refl; column = refl }) c.in_ok-node.ensures.node (rw c.deref.ensures at c.route-place.ensures.route) c.in_ok-push.ensures (rw c.deref-in-loop-i.ensures at c.child-id.ensures)

pub returns-in_err-node-clause-visits : goal.returns-in_err-node-clause-visits
returns-in_err-node-clause-visits g c =
    let small : c.loop-i.steps < 2 ^ 64 = omega (arith, c.count-counted.type_inv, c.count-counted.ensures) in
    descends_stop _ _ _ _ _ _ _ _ _ _ _ _ _ _ c.loop-i.invariant _ _ _ c.loop-i-test.true small c.in_err-node.ensures.looks c.in_err-node.ensures.counts (record { head = refl; height = refl; column = refl })

pub returns-clause-found : goal.returns-clause-found
returns-clause-found g c = descends_end _ _ _ _ _ _ _ _ _ _ _ _ _ _ c.loop-i.invariant (omega (arith, c.loop-i-test.false)) (c.loop-i.auto.i-end c.args.self.now.rows)

pub returns-clause-visits : goal.returns-clause-visits
returns-clause-visits g c = descends_done _ _ _ _ _ _ _ _ _ _ _ _ _ _ c.loop-i.invariant (c.loop-i.auto.i-end c.args.self.now.rows)

pub returns-clause-deep : goal.returns-clause-deep
returns-clause-deep g c = descends_deep _ _ _ _ _ _ _ _ _ _ _ _ _ _ c.loop-i.invariant (omega (arith, c.loop-i-test.false)) (c.loop-i.auto.i-end c.args.self.now.rows)
