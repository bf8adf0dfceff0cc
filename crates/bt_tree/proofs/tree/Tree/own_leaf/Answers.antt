use Rattle.std.proofs.Common.{◌∙◌, ap}
use Rattle.bt_tree.proofs.Pagings.{leaf_read, ready_beside}
use Rattle.bt_tree.proofs.tree.Tree.own_leaf.Goals as goal

pub take_leaf-requires : goal.take_leaf-requires
take_leaf-requires g c = ready_beside g.R.S.Space g.R.Records c.args.self.now c.args.space.now c.requires.ready

pub returns-in_ok-copy-in-Err-clause-leaf : goal.returns-in_ok-copy-in-Err-clause-leaf
returns-in_ok-copy-in-Err-clause-leaf g c = λ pages l h e.
    c.in_ok-copy-in-Err.ensures ∙ c.deref.ensures ∙ ap (λ r. r.value) c.in-Err.ensures.err ∙ leaf_read g.R.S.Space g.R.Records c.args.self.now c.args.space.now c.args.id c.in_ok-leaf.leaf.value c.in_ok-leaf.ensures.leaf pages l h e
