use Rattle.std.proofs.Common.{refl}
use Rattle.bt_tree.proofs.Pagings.{forget_peeks, node_is_there, ready_beside}
use Rattle.bt_tree.proofs.tree.Tree.own_node.Goals as goal

pub node-requires-clause-ready : goal.node-requires-clause-ready
node-requires-clause-ready g c = ready_beside g.R.S.Space g.R.Records c.args.self.now c.args.space.now c.requires.ready

pub node-requires-clause-there : goal.node-requires-clause-there
node-requires-clause-there g c = node_is_there g.R.S.Space g.R.Records c.args.self.now c.args.space.now c.args.id c.requires.there

pub returns-in_err-copy-in-Err-clause-peeks : goal.returns-in_err-copy-in-Err-clause-peeks
returns-in_err-copy-in-Err-clause-peeks g c = forget_peeks g.R.S.Space g.R.Records c.args.self.now _ c.node.new.self c.args.space.now c.node.new.space c.node.ensures.looks c.forget.ensures.same c.forget.ensures.room refl refl refl refl

pub returns-in-Ok-clause-peeks : goal.returns-in-Ok-clause-peeks
returns-in-Ok-clause-peeks g c = forget_peeks g.R.S.Space g.R.Records c.args.self.now _ c.node.new.self c.args.space.now c.node.new.space c.node.ensures.looks c.forget.ensures.same c.forget.ensures.room refl refl refl refl

pub returns-in_ok-copy-in-Err-clause-peeks : goal.returns-in_ok-copy-in-Err-clause-peeks
returns-in_ok-copy-in-Err-clause-peeks g c = forget_peeks g.R.S.Space g.R.Records c.args.self.now _ c.node.new.self c.args.space.now c.node.new.space c.node.ensures.looks c.forget.ensures.same c.forget.ensures.room refl refl refl refl
