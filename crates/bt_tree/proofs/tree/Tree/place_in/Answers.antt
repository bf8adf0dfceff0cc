use Rattle.std.proofs.Common.{◌∙◌, subst}
use Rattle.bt_page.specs.declared.page.Leaf.{Leaf}
use Rattle.bt_tree.specs.Valuing.{PlacesIn}
use Rattle.bt_tree.proofs.Pagings.{leaf_is_there, leaf_read, ready_beside}
use Rattle.bt_tree.proofs.tree.Tree.place_in.Goals as goal

pub leaf-requires-clause-ready : goal.leaf-requires-clause-ready
leaf-requires-clause-ready g c =
    ready_beside g.R.S.Space g.R.Records c.args.self.now c.args.space.now c.requires.ready

pub leaf-requires-clause-there : goal.leaf-requires-clause-there
leaf-requires-clause-there g c =
    leaf_is_there g.R.S.Space g.R.Records c.args.self.now c.args.space.now c.args.id c.requires.there

pub returns-clause-place : goal.returns-clause-place
returns-clause-place g c =
    λ pages l h is.
    subst (λ (x : Leaf). PlacesIn g.O.Order.cmp c.args.key.now c.args.place x c.item_with.result)
    (c.deref.ensures ∙ leaf_read g.R.S.Space g.R.Records c.args.self.now c.args.space.now c.args.id c.in_ok-leaf.leaf.value c.in_ok-leaf.ensures.leaf pages l h is) c.item_with.ensures
