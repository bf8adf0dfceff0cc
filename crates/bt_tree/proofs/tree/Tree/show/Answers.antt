use Rattle.bt_tree.proofs.Finds.{asks_of}
use Rattle.bt_tree.proofs.tree.Tree.show.Goals as goal

pub returns-in_err-leaf-clause-stays : goal.returns-in_err-leaf-clause-stays
returns-in_err-leaf-clause-stays g c = g.met.T.Taker.stays_refl c.args.taker.now

pub returns-in_err-leaf-clause-asks : goal.returns-in_err-leaf-clause-asks
returns-in_err-leaf-clause-asks g c = asks_of _ _ _ _ _ _ _ _ _ _ c.leaf_for.ensures.visits

pub returns-in_err-show_found-clause-asks : goal.returns-in_err-show_found-clause-asks
returns-in_err-show_found-clause-asks g c = asks_of _ _ _ _ _ _ _ _ _ _ c.leaf_for.ensures.visits

pub returns-clause-asks : goal.returns-clause-asks
returns-clause-asks g c = asks_of _ _ _ _ _ _ _ _ _ _ c.leaf_for.ensures.visits

pub returns-clause-shown : goal.returns-clause-shown
returns-clause-shown g c = λ ps m. (rw c.deref.ensures at c.in_ok-show_found.ensures.shown) ps (c.in_ok-leaf.ensures.leaf ps m)
