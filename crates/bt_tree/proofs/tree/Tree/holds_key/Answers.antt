use Rattle.std.proofs.Common.{sym, ◌∙◌, subst}
use Rattle.bt_rows.specs.Orders.{before_by}
use Rattle.bt_ways.specs.Items.{IsLeafFor}
use Rattle.bt_tree.proofs.Pagings.{leaf_is_there, leaf_read, ready_beside}
use Rattle.bt_tree.proofs.tree.Tree.holds_key.Goals as goal

pub leaf-requires-clause-ready : goal.leaf-requires-clause-ready
leaf-requires-clause-ready g c = ready_beside g.R.S.Space g.R.Records c.args.self.now c.args.space.now c.requires.ready

pub leaf-requires-clause-there : goal.leaf-requires-clause-there
leaf-requires-clause-there g c = leaf_is_there g.R.S.Space g.R.Records c.args.self.now c.args.space.now c.args.id c.requires.there

pub returns-clause-hit : goal.returns-clause-hit
returns-clause-hit g c = λ pages l ps h is belongs.
    c.has_key.ensures ps (subst (λ x. IsLeafFor (before_by g.O.Order.cmp) c.args.key.now ps x)
    (sym (c.deref.ensures ∙ leaf_read g.R.S.Space g.R.Records c.args.self.now c.args.space.now c.args.id c.in_ok-leaf.leaf.value c.in_ok-leaf.ensures.leaf pages l h is)) belongs)
