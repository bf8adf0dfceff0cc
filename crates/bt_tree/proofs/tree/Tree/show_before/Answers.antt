use Rattle.std.proofs.Common.{◌<◌, ◌^◌, ◌+◌, ◌-◌, refl, arith}
use Rattle.std.proofs.lemmas.Result.{IfOk-weaker}
use Rattle.bt_rows.proofs.Ordered.{orders_are_strict}
use Rattle.bt_tree.proofs.Descents.{looks_ready, leaf_there, visits_leaf}
use Rattle.bt_tree.proofs.Finds.{asks_of}
use Rattle.bt_tree.proofs.Fronts.{front_there, shown_front, shown_here, shown_none, visits_most, visits_then}
use Rattle.bt_tree.specs.Costs.{looks_then}
use Rattle.bt_tree.proofs.tree.Tree.show_before.Goals as goal

pub leaf-requires-clause-ready : goal.leaf-requires-clause-ready
leaf-requires-clause-ready g c =
    looks_ready g.R.S.Space g.R.Records g.O.Order c.args.self.now c.descend.new.self.cache c.descend.new.self.store c.args.space.now c.descend.new.space c.descend.ensures.visits.looks c.requires

pub leaf-requires-clause-there : goal.leaf-requires-clause-there
leaf-requires-clause-there g c =
    leaf_there g.R.S.Space g.R.Records g.O.Order c.args.key.now c.args.self.now c.args.space.now c.descend.new.self.path c.in_ok-id.id c.in_ok-id.ensures.found
    c.descend.new.self.cache c.descend.new.self.store c.descend.new.space c.requires c.descend.ensures.visits.looks

pub returns-in_err-id-clause-stays : goal.returns-in_err-id-clause-stays
returns-in_err-id-clause-stays g c =
    g.met.T.Taker.stays_refl c.args.taker.now

pub returns-in_err-id-clause-asks : goal.returns-in_err-id-clause-asks
returns-in_err-id-clause-asks g c =
    asks_of _ _ _ _ _ _ _ _ _ _ (visits_most g.R.S.Space g.R.Records (c.args.self.now.height - 1) (c.args.self.now.height + 1) c.args.self.now _ c.args.steps.now c.descend.new.steps c.args.space.now c.descend.new.space (omega arith) c.descend.ensures.visits)

pub returns-in_err-leaf-clause-stays : goal.returns-in_err-leaf-clause-stays
returns-in_err-leaf-clause-stays g c =
    g.met.T.Taker.stays_refl c.args.taker.now

pub returns-in_err-leaf-clause-asks : goal.returns-in_err-leaf-clause-asks
returns-in_err-leaf-clause-asks g c =
    let small : c.descend.new.steps < 2 ^ 64 = omega (arith, c.count-counted.type_inv, c.count-counted.ensures) in
    asks_of _ _ _ _ _ _ _ _ _ _ (visits_most g.R.S.Space g.R.Records c.args.self.now.height (c.args.self.now.height + 1) c.args.self.now _ c.args.steps.now c.leaf.new.steps c.args.space.now c.leaf.new.space (omega arith) (visits_leaf g.R.S.Space g.R.Records c.args.self.now c.descend.new.self _ c.args.steps.now c.descend.new.steps c.leaf.new.steps c.args.space.now c.descend.new.space c.leaf.new.space
    c.in_ok-id.id c.args.self.now.rows small c.descend.ensures.visits c.leaf.ensures.looks c.leaf.ensures.counts (record { head = refl; height = refl; column = refl })))

pub returns-in_err-prev-clause-asks : goal.returns-in_err-prev-clause-asks
returns-in_err-prev-clause-asks g c =
    let small : c.descend.new.steps < 2 ^ 64 = omega (arith, c.count-counted.type_inv, c.count-counted.ensures) in
    asks_of _ _ _ _ _ _ _ _ _ _ (visits_most g.R.S.Space g.R.Records c.args.self.now.height (c.args.self.now.height + 1) c.args.self.now _ c.args.steps.now c.leaf.new.steps c.args.space.now c.leaf.new.space (omega arith) (visits_leaf g.R.S.Space g.R.Records c.args.self.now c.descend.new.self _ c.args.steps.now c.descend.new.steps c.leaf.new.steps c.args.space.now c.descend.new.space c.leaf.new.space
    c.in_ok-id.id c.args.self.now.rows small c.descend.ensures.visits c.leaf.ensures.looks c.leaf.ensures.counts (record { head = refl; height = refl; column = refl })))

pub returns-in_default-clause-asks : goal.returns-in_default-clause-asks
returns-in_default-clause-asks g c =
    let small : c.descend.new.steps < 2 ^ 64 = omega (arith, c.count-counted.type_inv, c.count-counted.ensures) in
    asks_of _ _ _ _ _ _ _ _ _ _ (visits_most g.R.S.Space g.R.Records c.args.self.now.height (c.args.self.now.height + 1) c.args.self.now _ c.args.steps.now c.leaf.new.steps c.args.space.now c.leaf.new.space (omega arith) (visits_leaf g.R.S.Space g.R.Records c.args.self.now c.descend.new.self _ c.args.steps.now c.descend.new.steps c.leaf.new.steps c.args.space.now c.descend.new.space c.leaf.new.space
    c.in_ok-id.id c.args.self.now.rows small c.descend.ensures.visits c.leaf.ensures.looks c.leaf.ensures.counts (record { head = refl; height = refl; column = refl })))

pub returns-then-prev-eq0-clause-asks : goal.returns-then-prev-eq0-clause-asks
returns-then-prev-eq0-clause-asks g c =
    let small : c.descend.new.steps < 2 ^ 64 = omega (arith, c.count-counted.type_inv, c.count-counted.ensures) in
    asks_of _ _ _ _ _ _ _ _ _ _ (visits_most g.R.S.Space g.R.Records c.args.self.now.height (c.args.self.now.height + 1) c.args.self.now _ c.args.steps.now c.leaf.new.steps c.args.space.now c.leaf.new.space (omega arith) (visits_leaf g.R.S.Space g.R.Records c.args.self.now c.descend.new.self _ c.args.steps.now c.descend.new.steps c.leaf.new.steps c.args.space.now c.descend.new.space c.leaf.new.space
    c.in_ok-id.id c.args.self.now.rows small c.descend.ensures.visits c.leaf.ensures.looks c.leaf.ensures.counts (record { head = refl; height = refl; column = refl })))

pub returns-in_default-clause-shown : goal.returns-in_default-clause-shown
returns-in_default-clause-shown g c =
    shown_here g.R.S.Space g.R.Records g.O.Order (orders_are_strict g.O.Order.cmp g.met.O.Order.total g.met.O.Order.exact) c.args.self.now c.args.space.now c.args.key.now c.descend.new.self.path c.in_ok-id.id c.in_ok-id.ensures.found
    c.descend.new.self.cache c.descend.new.self.store c.descend.new.space c.in_ok-leaf.leaf.value c.descend.ensures.visits.looks c.in_ok-leaf.ensures.leaf
    g.T.Taker.takes c.args.taker.now c.show_below.new.taker (rw (c.deref.ensures, c.in_default.is) at c.in_ok-prev.ensures.here)

pub returns-then-prev-eq0-clause-shown : goal.returns-then-prev-eq0-clause-shown
returns-then-prev-eq0-clause-shown g c =
    shown_none g.R.S.Space g.R.Records g.O.Order (orders_are_strict g.O.Order.cmp g.met.O.Order.total g.met.O.Order.exact) c.args.self.now c.args.space.now c.args.key.now c.descend.new.self.path c.in_ok-id.id c.in_ok-id.ensures.found
    c.descend.new.self.cache c.descend.new.self.store c.descend.new.space c.in_ok-leaf.leaf.value c.descend.ensures.visits.looks c.in_ok-leaf.ensures.leaf
    g.T.Taker.takes c.in-Some.prev c.args.taker.now c.show_below.new.taker (rw (c.deref.ensures, c.in-Some.is) at c.in_ok-prev.ensures.front) c.if-prev-eq0.true

pub show_last_of-requires-clause-ready : goal.show_last_of-requires-clause-ready
show_last_of-requires-clause-ready g c =
    looks_ready g.R.S.Space g.R.Records g.O.Order c.args.self.now c.leaf.new.self c.leaf.new.store c.args.space.now c.leaf.new.space
    (looks_then g.R.S.Space g.R.Records c.args.self.now.cache c.descend.new.self.cache c.leaf.new.self c.args.self.now.store c.descend.new.self.store c.leaf.new.store c.args.space.now c.descend.new.space c.leaf.new.space c.descend.ensures.visits.looks c.leaf.ensures.looks) c.requires

pub show_last_of-requires-clause-there : goal.show_last_of-requires-clause-there
show_last_of-requires-clause-there g c =
    front_there g.R.S.Space g.R.Records g.O.Order (orders_are_strict g.O.Order.cmp g.met.O.Order.total g.met.O.Order.exact) c.args.self.now c.args.space.now c.args.key.now c.descend.new.self.path c.in_ok-id.id c.in_ok-id.ensures.found
    c.descend.new.self.cache c.descend.new.self.store c.descend.new.space c.in_ok-leaf.leaf.value c.descend.ensures.visits.looks c.in_ok-leaf.ensures.leaf
    g.T.Taker.takes c.in-Some.prev c.args.taker.now c.show_below.new.taker (rw (c.deref.ensures, c.in-Some.is) at c.in_ok-prev.ensures.front) c.if-prev-eq0.false c.leaf.new.self c.leaf.new.store c.leaf.new.space
    (looks_then g.R.S.Space g.R.Records c.args.self.now.cache c.descend.new.self.cache c.leaf.new.self c.args.self.now.store c.descend.new.self.store c.leaf.new.store c.args.space.now c.descend.new.space c.leaf.new.space c.descend.ensures.visits.looks c.leaf.ensures.looks) c.requires

pub returns-clause-shown : goal.returns-clause-shown
returns-clause-shown g c =
    IfOk-weaker _ _ _ (λ held shows. shown_front g.R.S.Space g.R.Records g.O.Order (orders_are_strict g.O.Order.cmp g.met.O.Order.total g.met.O.Order.exact) c.args.self.now c.args.space.now c.args.key.now c.descend.new.self.path c.in_ok-id.id c.in_ok-id.ensures.found
    c.descend.new.self.cache c.descend.new.self.store c.descend.new.space c.in_ok-leaf.leaf.value c.descend.ensures.visits.looks c.in_ok-leaf.ensures.leaf
    g.T.Taker.takes c.in-Some.prev c.args.taker.now c.show_below.new.taker (rw (c.deref.ensures, c.in-Some.is) at c.in_ok-prev.ensures.front) c.if-prev-eq0.false c.leaf.new.self c.leaf.new.store c.leaf.new.space
    (looks_then g.R.S.Space g.R.Records c.args.self.now.cache c.descend.new.self.cache c.leaf.new.self c.args.self.now.store c.descend.new.self.store c.leaf.new.store c.args.space.now c.descend.new.space c.leaf.new.space c.descend.ensures.visits.looks c.leaf.ensures.looks) (record c.descend.new.self { cache = c.leaf.new.self; store = c.leaf.new.store }) held c.show_last_of.new.taker refl refl shows) c.show_last_of.ensures.shown

pub returns-clause-stays : goal.returns-clause-stays
returns-clause-stays g c =
    g.met.T.Taker.stays_then c.args.taker.now c.show_below.new.taker c.show_last_of.new.taker c.show_below.ensures.stays c.show_last_of.ensures.stays

pub returns-clause-asks : goal.returns-clause-asks
returns-clause-asks g c =
    let small : c.descend.new.steps < 2 ^ 64 = omega (arith, c.count-counted.type_inv, c.count-counted.ensures) in
    asks_of _ _ _ _ _ _ _ _ _ _ (visits_then g.R.S.Space g.R.Records c.args.self.now.height 1 c.args.self.now _ _ c.args.steps.now c.leaf.new.steps c.show_last_of.new.steps c.args.space.now c.leaf.new.space c.show_last_of.new.space (visits_leaf g.R.S.Space g.R.Records c.args.self.now c.descend.new.self _ c.args.steps.now c.descend.new.steps c.leaf.new.steps c.args.space.now c.descend.new.space c.leaf.new.space
    c.in_ok-id.id c.args.self.now.rows small c.descend.ensures.visits c.leaf.ensures.looks c.leaf.ensures.counts (record { head = refl; height = refl; column = refl })) c.show_last_of.ensures.visits)

pub returns-clause-cause : goal.returns-clause-cause
returns-clause-cause g c =
    (λ is. omega (arith, c.show_last_of.ensures.cause.0 is, c.leaf.ensures.looks.keeps.later, c.descend.ensures.visits.looks.keeps.later), c.show_last_of.ensures.cause.1)
