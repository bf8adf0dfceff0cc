use Rattle.std.proofs.Common.{◌∙◌, ◌+◌, ◌<◌, length, subst}
use Rattle.bt_page.specs.declared.page.Node.{Node}
use Rattle.bt_tree.proofs.Pagings.{node_is_there, node_read, ready_beside}
use Rattle.bt_tree.proofs.tree.Tree.has_no_room.Goals as goal

pub node-requires-clause-ready : goal.node-requires-clause-ready
node-requires-clause-ready g c = ready_beside g.R.S.Space g.R.Records c.args.self.now c.args.space.now c.requires.ready

pub node-requires-clause-there : goal.node-requires-clause-there
node-requires-clause-there g c = node_is_there g.R.S.Space g.R.Records c.args.self.now c.args.space.now c.args.id c.requires.there

pub returns-clause-full : goal.returns-clause-full
returns-clause-full g c = λ full pages n h is.
    subst (λ (x : Node). c.args.self.now.head.node_limit < length x.entries + c.args.more)
    (c.deref.ensures ∙ node_read g.R.S.Space g.R.Records c.args.self.now c.args.space.now c.args.id c.in_ok-node.node.value c.in_ok-node.ensures.node pages n h is) (c.is_full.ensures full)
