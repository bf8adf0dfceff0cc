use Rattle.bt_tree.proofs.Finds.{asks_of}
use Rattle.bt_tree.proofs.tree.Tree.find.Goals as goal

pub returns-in_err-leaf-clause-asks : goal.returns-in_err-leaf-clause-asks
returns-in_err-leaf-clause-asks g c = asks_of _ _ _ _ _ _ _ _ _ _ c.leaf_for.ensures.visits

pub returns-clause-asks : goal.returns-clause-asks
returns-clause-asks g c = asks_of _ _ _ _ _ _ _ _ _ _ c.leaf_for.ensures.visits

pub returns-clause-value : goal.returns-clause-value
returns-clause-value g c = λ ps m. (rw c.deref.ensures at c.in_ok-copy_found.ensures) ps (c.in_ok-leaf.ensures.leaf ps m)

pub returns-in_err-copy_found-clause-asks : goal.returns-in_err-copy_found-clause-asks
returns-in_err-copy_found-clause-asks g c = asks_of _ _ _ _ _ _ _ _ _ _ c.leaf_for.ensures.visits
