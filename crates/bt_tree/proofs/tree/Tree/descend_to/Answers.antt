use Rattle.std.proofs.Common.{◌<◌, ◌^◌, [], ◌∷◌, refl, arith}
use Rattle.bt_tree.proofs.Descents.{descends_start, store_ready, node_there, descends_more, descends_stop, descends_end, descends_done}
use Rattle.bt_tree.proofs.tree.Tree.descend_to.Goals as goal

pub loop-i-init : goal.loop-i-init
loop-i-init g c = ([], descends_start _ _ _ _ _ c.args.self.now _ _ _ _ c.requires.sound (record { head = refl; height = refl; column = refl }) refl refl refl)

pub node-requires-clause-ready : goal.node-requires-clause-ready
node-requires-clause-ready g c = store_ready _ _ _ _ _ _ _ _ _ _ _ _ _ _ c.loop-i.invariant.1 c.requires

pub node-requires-clause-there : goal.node-requires-clause-there
node-requires-clause-there g c = node_there _ _ _ _ _ _ _ _ _ _ _ _ _ _ c.loop-i.invariant.1 c.requires c.loop-i-test.true

pub loop-i-preserved : goal.loop-i-preserved
loop-i-preserved g c =
    let small : c.loop-i.steps < 2 ^ 64 = omega (arith, c.count-counted.type_inv, c.count-counted.ensures) in (
      (c.loop-i.id, c.route_to-place.result) ∷ c.loop-i.invariant.0,
      descends_more _ _ _ _ _ _ _ _ _ _ _ _ _ _ c.loop-i.invariant.1 _ _ _ _ _ c.route_to-place.result c.in_ok-node.node.value c.loop-i-test.true small c.in_ok-node.ensures.looks c.in_ok-node.ensures.counts
          (record { head = refl; height = refl; column = refl }) c.in_ok-node.ensures.node (rw c.deref.ensures at c.route_to-place.ensures.route) refl (rw c.deref-in-loop-i.ensures at c.child-id.ensures),
    )

pub returns-in_err-node-clause-visits : goal.returns-in_err-node-clause-visits
returns-in_err-node-clause-visits g c =
    let small : c.loop-i.steps < 2 ^ 64 = omega (arith, c.count-counted.type_inv, c.count-counted.ensures) in
    descends_stop _ _ _ _ _ _ _ _ _ _ _ _ _ _ c.loop-i.invariant.1 _ _ _ c.loop-i-test.true small c.in_err-node.ensures.looks c.in_err-node.ensures.counts (record { head = refl; height = refl; column = refl })

pub returns-clause-found : goal.returns-clause-found
returns-clause-found g c = (c.loop-i.invariant.0, descends_end _ _ _ _ _ _ _ _ _ _ _ _ _ _ c.loop-i.invariant.1 (omega (arith, c.loop-i-test.false)) (c.loop-i.auto.i-end c.args.self.now.rows))

pub returns-clause-visits : goal.returns-clause-visits
returns-clause-visits g c = descends_done _ _ _ _ _ _ _ _ _ _ _ _ _ _ c.loop-i.invariant.1 (c.loop-i.auto.i-end c.args.self.now.rows)
