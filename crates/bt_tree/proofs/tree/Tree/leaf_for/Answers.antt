use Rattle.std.proofs.Common.{◌<◌, ◌^◌, refl, arith}
use Rattle.std.proofs.lemmas.Result.{IfOk-weaker}
use Rattle.bt_rows.proofs.Ordered.{orders_are_strict}
use Rattle.bt_tree.proofs.Descents.{looks_ready, leaf_there, leaf_is_for, visits_leaf, visits_all}
use Rattle.bt_tree.proofs.tree.Tree.leaf_for.Goals as goal

pub leaf-requires-clause-ready : goal.leaf-requires-clause-ready
leaf-requires-clause-ready g c = looks_ready g.R.S.Space g.R.Records g.O.Order c.args.self.now c.descend.new.self.cache c.descend.new.self.store c.args.space.now c.descend.new.space c.descend.ensures.visits.looks c.requires

pub leaf-requires-clause-there : goal.leaf-requires-clause-there
leaf-requires-clause-there g c =
    leaf_there g.R.S.Space g.R.Records g.O.Order c.args.key.now c.args.self.now c.args.space.now c.descend.new.self.path c.in_ok-id.id c.in_ok-id.ensures.found
    c.descend.new.self.cache c.descend.new.self.store c.descend.new.space c.requires c.descend.ensures.visits.looks

pub returns-in_err-id-clause-visits : goal.returns-in_err-id-clause-visits
returns-in_err-id-clause-visits g c =
    visits_all g.R.S.Space g.R.Records c.args.self.now c.descend.new.self c.descend.new.self c.args.steps.now c.descend.new.steps c.descend.new.steps c.args.space.now c.descend.new.space c.descend.new.space c.descend.ensures.visits

pub returns-clause-leaf : goal.returns-clause-leaf
returns-clause-leaf g c = IfOk-weaker c.leaf.result _ _ (λ leaf is.
    leaf_is_for g.R.S.Space g.R.Records g.O.Order c.args.key.now c.args.self.now c.args.space.now c.descend.new.self.path c.in_ok-id.id c.in_ok-id.ensures.found (orders_are_strict g.O.Order.cmp g.met.O.Order.total g.met.O.Order.exact)
    c.descend.new.self.cache c.descend.new.self.store c.descend.new.space leaf.value c.descend.ensures.visits.looks is) c.leaf.ensures.leaf

pub returns-clause-visits : goal.returns-clause-visits
returns-clause-visits g c =
    let small : c.descend.new.steps < 2 ^ 64 = omega (arith, c.count-counted.type_inv, c.count-counted.ensures) in
    visits_leaf g.R.S.Space g.R.Records c.args.self.now c.descend.new.self _ c.args.steps.now c.descend.new.steps c.leaf.new.steps c.args.space.now c.descend.new.space c.leaf.new.space
    c.in_ok-id.id c.args.self.now.rows small c.descend.ensures.visits c.leaf.ensures.looks c.leaf.ensures.counts (record { head = refl; height = refl; column = refl })

pub returns-clause-cause : goal.returns-clause-cause
returns-clause-cause g c = (λ is. omega (arith, c.leaf.ensures.cause.0 is, c.descend.ensures.visits.looks.keeps.later), c.leaf.ensures.cause.1)
