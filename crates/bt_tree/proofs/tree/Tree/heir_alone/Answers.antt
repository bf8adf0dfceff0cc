use Rattle.bt_tree.proofs.Pagings.{node_is_there, node_read, ready_beside}
use Rattle.bt_tree.proofs.Prunings.{heir_on}
use Rattle.bt_tree.proofs.tree.Tree.heir_alone.Goals as goal

pub node-requires-clause-ready : goal.node-requires-clause-ready
node-requires-clause-ready g c = ready_beside g.R.S.Space g.R.Records c.args.self.now c.args.space.now c.requires.ready

pub node-requires-clause-there : goal.node-requires-clause-there
node-requires-clause-there g c = node_is_there g.R.S.Space g.R.Records c.args.self.now c.args.space.now c.args.id c.requires.there

pub returns-clause-heir : goal.returns-clause-heir
returns-clause-heir g c = λ pages n h is.
    heir_on c.lone_heir.result c.deref.result.now c.in_ok-node.node.value n c.deref.ensures (node_read g.R.S.Space g.R.Records c.args.self.now c.args.space.now c.args.id c.in_ok-node.node.value c.in_ok-node.ensures.node pages n h is) c.lone_heir.ensures
