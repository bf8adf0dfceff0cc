use Rattle.bt_tree.specs.Costs.{looks_then}
use Rattle.bt_tree.proofs.Inserts.{found_there, means_ready}
use Rattle.bt_tree.proofs.Puttings.{takes_pair}
use Rattle.bt_tree.proofs.tree.Tree.take_pair.Goals as goal

pub own_leaf-requires-clause-ready : goal.own_leaf-requires-clause-ready
own_leaf-requires-clause-ready g c = means_ready g.R.S.Space g.R.Records g.O.Order c.args.self.now c.descend.new.self c.args.space.now c.descend.new.space c.descend.ensures.visits.looks c.descend.ensures.visits.stays c.requires

pub own_leaf-requires-clause-there : goal.own_leaf-requires-clause-there
own_leaf-requires-clause-there g c = found_there g.R.S.Space g.R.Records g.O.Order c.args.self.now c.descend.new.self c.args.space.now c.descend.new.space c.args.key.now c.descend.new.self.path c.in_ok-id.id c.descend.ensures.visits.looks c.descend.ensures.visits.stays c.requires c.in_ok-id.ensures.found

pub returns-clause-taken : goal.returns-clause-taken
returns-clause-taken g c =
    takes_pair g.R.S.Space g.R.Records g.O.Order c.args.last c.args.key.now c.args.value.now c.args.self.now c.descend.new.self c.args.space.now c.descend.new.space c.descend.new.self.path c.own_leaf.new.self.path c.own_leaf.ensures.peeks.still.path
    c.in_ok-id.id c.in_ok-leaf.leaf c.in_ok-leaf-2.leaf c.in_ok-leaf-2.place c.in_ok-leaf-2.grown c.descend.ensures.visits.looks c.descend.ensures.visits.stays c.in_ok-id.ensures.found c.in_ok-leaf.ensures.leaf c.in_ok-leaf-2.ensures.links c.in_ok-leaf-2.ensures.changed

pub returns-clause-looks : goal.returns-clause-looks
returns-clause-looks g c = looks_then g.R.S.Space g.R.Records _ _ _ _ _ _ _ _ _ c.descend.ensures.visits.looks c.own_leaf.ensures.peeks.looks
