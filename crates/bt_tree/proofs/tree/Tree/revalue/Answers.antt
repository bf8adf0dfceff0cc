use Rattle.std.proofs.Common.{◌∙◌}
use Rattle.std.specs.Prelude.{option_map}
use Rattle.bt_rows.proofs.Ordered.{orders_are_strict}
use Rattle.bt_slots.specs.Lying.{values_with_nth}
use Rattle.bt_tree.specs.Costs.{looks_then}
use Rattle.bt_tree.specs.Visits.{stays_then}
use Rattle.bt_tree.proofs.Inserts.{found_there, means_ready}
use Rattle.bt_tree.proofs.Removes.{stays_still}
use Rattle.bt_tree.proofs.Revalues.{none_told, revalues_leaf}
use Rattle.bt_tree.proofs.Revaluings.{still_inside}
use Rattle.bt_tree.proofs.tree.Tree.revalue.Goals as goal

pub place_in-requires-clause-ready : goal.place_in-requires-clause-ready
place_in-requires-clause-ready g c =
    means_ready g.R.S.Space g.R.Records g.O.Order c.args.self.now c.descend.new.self c.args.space.now c.descend.new.space c.descend.ensures.visits.looks c.descend.ensures.visits.stays c.requires.open

pub place_in-requires-clause-there : goal.place_in-requires-clause-there
place_in-requires-clause-there g c =
    found_there g.R.S.Space g.R.Records g.O.Order c.args.self.now c.descend.new.self c.args.space.now c.descend.new.space c.args.key.now c.descend.new.self.path c.in_ok-id.id c.descend.ensures.visits.looks c.descend.ensures.visits.stays c.requires.open c.in_ok-id.ensures.found

pub returns-in_default-clause-leaf : goal.returns-in_default-clause-leaf
returns-in_default-clause-leaf g c =
    none_told g.R.S.Space g.R.Records g.O.Order (orders_are_strict g.O.Order.cmp g.met.O.Order.total g.met.O.Order.exact) c.args.key.now c.args.place (option_map (λ v. v.now) c.args.value) c.args.self.now c.descend.new.self c.args.space.now c.descend.new.space c.descend.new.self.path c.in_ok-id.id c.descend.ensures.visits.looks c.descend.ensures.visits.stays c.in_ok-id.ensures.found (rw c.in_default.is at c.in_ok-at.ensures.place)

pub own_leaf-requires-clause-ready : goal.own_leaf-requires-clause-ready
own_leaf-requires-clause-ready g c =
    means_ready g.R.S.Space g.R.Records g.O.Order c.args.self.now c.place_in.new.self c.args.space.now c.place_in.new.space
    (looks_then g.R.S.Space g.R.Records _ _ _ _ _ _ _ _ _ c.descend.ensures.visits.looks c.place_in.ensures.peeks.looks)
    (stays_then _ _ _ c.descend.ensures.visits.stays (stays_still g.R.S.Space g.R.Records _ _ _ _ c.place_in.ensures.peeks.still)) c.requires.open

pub own_leaf-requires-clause-there : goal.own_leaf-requires-clause-there
own_leaf-requires-clause-there g c =
    found_there g.R.S.Space g.R.Records g.O.Order c.args.self.now c.place_in.new.self c.args.space.now c.place_in.new.space c.args.key.now c.descend.new.self.path c.in_ok-id.id
    (looks_then g.R.S.Space g.R.Records _ _ _ _ _ _ _ _ _ c.descend.ensures.visits.looks c.place_in.ensures.peeks.looks)
    (stays_then _ _ _ c.descend.ensures.visits.stays (stays_still g.R.S.Space g.R.Records _ _ _ _ c.place_in.ensures.peeks.still)) c.requires.open c.in_ok-id.ensures.found

pub returns-clause-leaf : goal.returns-clause-leaf
returns-clause-leaf g c =
    revalues_leaf g.R.S.Space g.R.Records g.O.Order (orders_are_strict g.O.Order.cmp g.met.O.Order.total g.met.O.Order.exact) c.args.key.now c.args.place (option_map (λ v. v.now) c.args.value) c.args.self.now c.descend.new.self c.args.space.now c.descend.new.space c.descend.new.self.path c.in_ok-id.id c.descend.ensures.visits.looks c.descend.ensures.visits.stays c.in_ok-id.ensures.found
    c.place_in.new.self c.place_in.new.space _ c.in-Some.at c.in_ok-leaf.leaf c.in_ok-leaf-2.leaf (c.own_leaf.ensures.peeks.still.path ∙ c.place_in.ensures.peeks.still.path)
    (looks_then g.R.S.Space g.R.Records _ _ _ _ _ _ _ _ _ c.descend.ensures.visits.looks c.place_in.ensures.peeks.looks)
    (stays_then _ _ _ c.descend.ensures.visits.stays (stays_still g.R.S.Space g.R.Records _ _ _ _ c.place_in.ensures.peeks.still)) (rw c.in-Some.is at c.in_ok-at.ensures.place) c.in_ok-leaf.ensures.leaf c.in_ok-leaf-2.ensures.inside c.in_ok-leaf-2.ensures.values

pub returns-clause-inside : goal.returns-clause-inside
returns-clause-inside g c =
    still_inside (values_with_nth c.args.place (option_map (λ v. v.now) c.args.value)) c.in-Some.at c.in_ok-leaf.leaf c.in_ok-leaf-2.leaf c.in_ok-leaf-2.ensures.inside c.in_ok-leaf-2.ensures.values
