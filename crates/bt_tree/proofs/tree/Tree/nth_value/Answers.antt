use Rattle.std.proofs.Common.{◌<◌, ◌^◌, ◌∙◌, refl, sym, subst, arith}
use Rattle.bt_cache.specs.Effects.{Looks}
use Rattle.bt_rows.proofs.Ordered.{orders_are_strict}
use Rattle.bt_rows.specs.Orders.{before_by}
use Rattle.bt_slots.proofs.Places.{some_at}
use Rattle.bt_tree.proofs.Descents.{leaf_holds, leaf_is_for, leaf_there, looks_ready, visits_all, visits_leaf}
use Rattle.bt_tree.proofs.Finds.{asks_of, nth_missing, nth_there}
use Rattle.bt_tree.proofs.tree.Tree.nth_value.Goals as goal

pub leaf-requires-clause-ready : goal.leaf-requires-clause-ready
leaf-requires-clause-ready g c = looks_ready g.R.S.Space g.R.Records g.O.Order c.args.self.now c.descend.new.self.cache c.descend.new.self.store c.args.space.now c.descend.new.space c.descend.ensures.visits.looks c.requires

pub leaf-requires-clause-there : goal.leaf-requires-clause-there
leaf-requires-clause-there g c =
    leaf_there g.R.S.Space g.R.Records g.O.Order c.args.key.now c.args.self.now c.args.space.now c.descend.new.self.path c.in_ok-id.id c.in_ok-id.ensures.found
    c.descend.new.self.cache c.descend.new.self.store c.descend.new.space c.requires c.descend.ensures.visits.looks

pub returns-in_err-id-clause-asks : goal.returns-in_err-id-clause-asks
returns-in_err-id-clause-asks g c =
    asks_of _ _ _ _ _ _ _ _ _ _ (visits_all g.R.S.Space g.R.Records c.args.self.now c.descend.new.self c.descend.new.self c.args.steps.now c.descend.new.steps c.descend.new.steps c.args.space.now c.descend.new.space c.descend.new.space c.descend.ensures.visits)

pub returns-in_err-leaf-clause-asks : goal.returns-in_err-leaf-clause-asks
returns-in_err-leaf-clause-asks g c =
    let small : c.descend.new.steps < 2 ^ 64 = omega (arith, c.count-counted.type_inv, c.count-counted.ensures) in
    asks_of _ _ _ _ _ _ _ _ _ _ (visits_leaf g.R.S.Space g.R.Records c.args.self.now c.descend.new.self _ c.args.steps.now c.descend.new.steps c.leaf.new.steps c.args.space.now c.descend.new.space c.leaf.new.space
    c.in_ok-id.id c.args.self.now.rows small c.descend.ensures.visits c.leaf.ensures.looks c.leaf.ensures.counts (record { head = refl; height = refl; column = refl }))

pub returns-then-not-hit-clause-asks : goal.returns-then-not-hit-clause-asks
returns-then-not-hit-clause-asks g c =
    let small : c.descend.new.steps < 2 ^ 64 = omega (arith, c.count-counted.type_inv, c.count-counted.ensures) in
    asks_of _ _ _ _ _ _ _ _ _ _ (visits_leaf g.R.S.Space g.R.Records c.args.self.now c.descend.new.self _ c.args.steps.now c.descend.new.steps c.leaf.new.steps c.args.space.now c.descend.new.space c.leaf.new.space
    c.in_ok-id.id c.args.self.now.rows small c.descend.ensures.visits c.leaf.ensures.looks c.leaf.ensures.counts (record { head = refl; height = refl; column = refl }))

pub returns-then-not-hit-clause-value : goal.returns-then-not-hit-clause-value
returns-then-not-hit-clause-value g c = λ ps means.
    let order = orders_are_strict g.O.Order.cmp g.met.O.Order.total g.met.O.Order.exact in
    let own = leaf_is_for g.R.S.Space g.R.Records g.O.Order c.args.key.now c.args.self.now c.args.space.now c.descend.new.self.path c.in_ok-id.id c.in_ok-id.ensures.found order c.descend.new.self.cache c.descend.new.self.store c.descend.new.space c.in_ok-leaf.leaf.value c.descend.ensures.visits.looks c.in_ok-leaf.ensures.leaf ps means in
    let s = rw (c.deref.ensures, c.if-not-hit.true) at c.spot-place.ensures.spot in
    nth_missing (before_by g.O.Order.cmp) order c.args.key.now ps c.in_ok-leaf.leaf.value c.spot-place.result.0 own c.args.number s

pub returns-in_err-nth-clause-asks : goal.returns-in_err-nth-clause-asks
returns-in_err-nth-clause-asks g c =
    let small : c.descend.new.steps < 2 ^ 64 = omega (arith, c.count-counted.type_inv, c.count-counted.ensures) in
    let looks = subst (λ k. Looks g.R.S.Space g.R.Records c.descend.new.self.cache k c.descend.new.self.store c.leaf.new.store c.descend.new.space c.leaf.new.space) (sym c.nth.ensures.same) c.leaf.ensures.looks in
    asks_of _ _ _ _ _ _ _ _ _ _ (visits_leaf g.R.S.Space g.R.Records c.args.self.now c.descend.new.self _ c.args.steps.now c.descend.new.steps c.leaf.new.steps c.args.space.now c.descend.new.space c.leaf.new.space
    c.in_ok-id.id c.args.self.now.rows small c.descend.ensures.visits looks c.leaf.ensures.counts (record { height = refl; head = refl; column = refl }))

pub returns-clause-asks : goal.returns-clause-asks
returns-clause-asks g c =
    let small : c.descend.new.steps < 2 ^ 64 = omega (arith, c.count-counted.type_inv, c.count-counted.ensures) in
    let looks = subst (λ k. Looks g.R.S.Space g.R.Records c.descend.new.self.cache k c.descend.new.self.store c.leaf.new.store c.descend.new.space c.leaf.new.space) (sym c.nth.ensures.same) c.leaf.ensures.looks in
    asks_of _ _ _ _ _ _ _ _ _ _ (visits_leaf g.R.S.Space g.R.Records c.args.self.now c.descend.new.self _ c.args.steps.now c.descend.new.steps c.leaf.new.steps c.args.space.now c.descend.new.space c.leaf.new.space
    c.in_ok-id.id c.args.self.now.rows small c.descend.ensures.visits looks c.leaf.ensures.counts (record { height = refl; head = refl; column = refl }))

pub returns-clause-value : goal.returns-clause-value
returns-clause-value g c = λ ps means.
    let order = orders_are_strict g.O.Order.cmp g.met.O.Order.total g.met.O.Order.exact in
    let own = leaf_is_for g.R.S.Space g.R.Records g.O.Order c.args.key.now c.args.self.now c.args.space.now c.descend.new.self.path c.in_ok-id.id c.in_ok-id.ensures.found order c.descend.new.self.cache c.descend.new.self.store c.descend.new.space c.in_ok-leaf.leaf.value c.descend.ensures.visits.looks c.in_ok-leaf.ensures.leaf ps means in
    let held = leaf_holds g.R.S.Space g.R.Records g.O.Order c.args.key.now c.args.self.now c.args.space.now c.descend.new.self.path c.in_ok-id.id c.in_ok-id.ensures.found c.descend.new.self.cache c.leaf.new.self c.descend.new.self.store c.leaf.new.store c.descend.new.space c.leaf.new.space c.in_ok-leaf.leaf.value c.descend.ensures.visits.looks c.leaf.ensures.looks c.in_ok-leaf.ensures.leaf c.in_ok-leaf.ensures.front ps means in
    let s = rw (c.deref.ensures, c.if-not-hit.false) at c.spot-place.ensures.spot in
    let x = some_at c.in_ok-leaf.leaf.value.items c.spot-place.result.0 ((rw c.deref.ensures at c.spot-place.ensures.inside) c.if-not-hit.false) in
    c.in_ok-nth.ensures.value c.in_ok-leaf.leaf.value held x.0 x.1 ∙ nth_there (before_by g.O.Order.cmp) order c.args.key.now ps c.in_ok-leaf.leaf.value c.spot-place.result.0 own c.args.number x.0 s x.1
