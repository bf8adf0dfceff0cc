use Rattle.std.proofs.Common.{◌<◌, ◌^◌, refl, arith}
use Rattle.bt_rows.proofs.Ordered.{orders_are_strict}
use Rattle.bt_tree.proofs.Descents.{looks_ready}
use Rattle.bt_tree.proofs.EndPairs.{visits_one}
use Rattle.bt_tree.proofs.Finds.{asks_of}
use Rattle.bt_tree.proofs.Fronts.{first_leaf_there, shown_first}
use Rattle.bt_tree.specs.Costs.{looks_refl}
use Rattle.bt_tree.proofs.tree.Tree.show_first.Goals as goal

pub leaf-requires-clause-ready : goal.leaf-requires-clause-ready
leaf-requires-clause-ready g c =
    looks_ready g.R.S.Space g.R.Records g.O.Order c.args.self.now c.args.self.now.cache c.args.self.now.store c.args.space.now c.args.space.now
    (looks_refl g.R.S.Space g.R.Records c.args.self.now.cache c.args.self.now.store c.args.space.now c.requires.sound) c.requires

pub leaf-requires-clause-there : goal.leaf-requires-clause-there
leaf-requires-clause-there g c = first_leaf_there g.R.S.Space g.R.Records g.O.Order (orders_are_strict g.O.Order.cmp g.met.O.Order.total g.met.O.Order.exact) c.args.self.now c.args.space.now c.requires

pub returns-in_err-leaf-clause-stays : goal.returns-in_err-leaf-clause-stays
returns-in_err-leaf-clause-stays g c = g.met.T.Taker.stays_refl c.args.taker.now

pub returns-in_err-leaf-clause-asks : goal.returns-in_err-leaf-clause-asks
returns-in_err-leaf-clause-asks g c =
    let small : c.args.steps.now < 2 ^ 64 = omega (arith, c.count-counted.type_inv, c.count-counted.ensures) in
    asks_of _ _ _ _ _ _ _ _ _ _ (visits_one g.R.S.Space g.R.Records c.args.self.now _ c.args.self.now.head.first c.args.steps.now c.leaf.new.steps c.args.space.now c.leaf.new.space small c.leaf.ensures.looks c.leaf.ensures.counts (record { head = refl; height = refl; column = refl }))

pub returns-in_err-show_start-clause-asks : goal.returns-in_err-show_start-clause-asks
returns-in_err-show_start-clause-asks g c =
    let small : c.args.steps.now < 2 ^ 64 = omega (arith, c.count-counted.type_inv, c.count-counted.ensures) in
    asks_of _ _ _ _ _ _ _ _ _ _ (visits_one g.R.S.Space g.R.Records c.args.self.now _ c.args.self.now.head.first c.args.steps.now c.leaf.new.steps c.args.space.now c.leaf.new.space small c.leaf.ensures.looks c.leaf.ensures.counts (record { head = refl; height = refl; column = refl }))

pub returns-clause-asks : goal.returns-clause-asks
returns-clause-asks g c =
    let small : c.args.steps.now < 2 ^ 64 = omega (arith, c.count-counted.type_inv, c.count-counted.ensures) in
    asks_of _ _ _ _ _ _ _ _ _ _ (visits_one g.R.S.Space g.R.Records c.args.self.now _ c.args.self.now.head.first c.args.steps.now c.leaf.new.steps c.args.space.now c.leaf.new.space small c.leaf.ensures.looks c.leaf.ensures.counts (record { head = refl; height = refl; column = refl }))

pub returns-clause-shown : goal.returns-clause-shown
returns-clause-shown g c =
    shown_first g.R.S.Space g.R.Records g.O.Order (orders_are_strict g.O.Order.cmp g.met.O.Order.total g.met.O.Order.exact) c.args.self.now c.args.space.now g.T.Taker.takes c.in_ok-leaf.leaf.value c.in_ok-show_start.field-0 c.args.taker.now c.show_start.new.taker
    c.in_ok-leaf.ensures.leaf (rw c.deref.ensures at c.in_ok-show_start.ensures.shown)
