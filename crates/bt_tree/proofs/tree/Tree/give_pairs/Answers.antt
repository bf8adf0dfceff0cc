use Rattle.std.proofs.Common.{sym, ◌∙◌}
use Rattle.bt_rows.proofs.Ordered.{orders_are_strict}
use Rattle.bt_tree.specs.Costs.{looks_then}
use Rattle.bt_tree.specs.Visits.{stays_then}
use Rattle.bt_tree.proofs.Inserts.{found_there, means_ready}
use Rattle.bt_tree.proofs.Removes.{gives_pairs, hit_held, stays_still}
use Rattle.bt_tree.proofs.tree.Tree.give_pairs.Goals as goal

pub holds_key-requires-clause-ready : goal.holds_key-requires-clause-ready
holds_key-requires-clause-ready g c = means_ready g.R.S.Space g.R.Records g.O.Order c.args.self.now c.descend.new.self c.args.space.now c.descend.new.space c.descend.ensures.visits.looks c.descend.ensures.visits.stays c.requires

pub holds_key-requires-clause-there : goal.holds_key-requires-clause-there
holds_key-requires-clause-there g c = found_there g.R.S.Space g.R.Records g.O.Order c.args.self.now c.descend.new.self c.args.space.now c.descend.new.space c.args.key.now c.descend.new.self.path c.in_ok-id.id c.descend.ensures.visits.looks c.descend.ensures.visits.stays c.requires c.in_ok-id.ensures.found

pub returns-then-not-branch-clause-hit : goal.returns-then-not-branch-clause-hit
returns-then-not-branch-clause-hit g c = λ ps h.
    sym c.if-not-branch.true ∙ hit_held g.R.S.Space g.R.Records g.O.Order (orders_are_strict g.O.Order.cmp g.met.O.Order.total g.met.O.Order.exact) c.args.self.now c.descend.new.self c.args.space.now c.descend.new.space c.args.key.now c.descend.new.self.path c.in_ok-id.id _ c.descend.ensures.visits.looks c.descend.ensures.visits.stays c.in_ok-id.ensures.found c.in_ok-holds_key.ensures.hit ps h

pub own_leaf-requires-clause-ready : goal.own_leaf-requires-clause-ready
own_leaf-requires-clause-ready g c = means_ready g.R.S.Space g.R.Records g.O.Order c.args.self.now c.holds_key.new.self c.args.space.now c.holds_key.new.space
    (looks_then g.R.S.Space g.R.Records _ _ _ _ _ _ _ _ _ c.descend.ensures.visits.looks c.holds_key.ensures.peeks.looks)
    (stays_then _ _ _ c.descend.ensures.visits.stays (stays_still g.R.S.Space g.R.Records _ _ _ _ c.holds_key.ensures.peeks.still)) c.requires

pub own_leaf-requires-clause-there : goal.own_leaf-requires-clause-there
own_leaf-requires-clause-there g c =
    found_there g.R.S.Space g.R.Records g.O.Order c.args.self.now c.holds_key.new.self c.args.space.now c.holds_key.new.space c.args.key.now c.descend.new.self.path c.in_ok-id.id
    (looks_then g.R.S.Space g.R.Records _ _ _ _ _ _ _ _ _ c.descend.ensures.visits.looks c.holds_key.ensures.peeks.looks)
    (stays_then _ _ _ c.descend.ensures.visits.stays (stays_still g.R.S.Space g.R.Records _ _ _ _ c.holds_key.ensures.peeks.still)) c.requires c.in_ok-id.ensures.found

pub returns-clause-hit : goal.returns-clause-hit
returns-clause-hit g c = λ ps h.
    sym c.if-not-branch.false ∙ hit_held g.R.S.Space g.R.Records g.O.Order (orders_are_strict g.O.Order.cmp g.met.O.Order.total g.met.O.Order.exact) c.args.self.now c.descend.new.self c.args.space.now c.descend.new.space c.args.key.now c.descend.new.self.path c.in_ok-id.id _ c.descend.ensures.visits.looks c.descend.ensures.visits.stays c.in_ok-id.ensures.found c.in_ok-holds_key.ensures.hit ps h

pub returns-clause-given : goal.returns-clause-given
returns-clause-given g c =
    gives_pairs g.R.S.Space g.R.Records g.O.Order c.args.all c.args.key.now c.args.self.now c.holds_key.new.self c.args.space.now c.holds_key.new.space c.descend.new.self.path _ c.in_ok-id.id c.in_ok-leaf.leaf c.in_ok-leaf-2.leaf c.in_ok-leaf-2.count
    (c.own_leaf.ensures.peeks.still.path ∙ c.holds_key.ensures.peeks.still.path)
    (looks_then g.R.S.Space g.R.Records _ _ _ _ _ _ _ _ _ c.descend.ensures.visits.looks c.holds_key.ensures.peeks.looks)
    (stays_then _ _ _ c.descend.ensures.visits.stays (stays_still g.R.S.Space g.R.Records _ _ _ _ c.holds_key.ensures.peeks.still)) c.in_ok-id.ensures.found c.in_ok-leaf.ensures.leaf c.in_ok-leaf-2.ensures.links c.in_ok-leaf-2.ensures.taken
