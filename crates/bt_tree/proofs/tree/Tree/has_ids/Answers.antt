use Rattle.std.proofs.Common.{ap, arith}
use Rattle.bt_rows.specs.declared.head.TreeHead.{TreeHead}
use Rattle.bt_tree.proofs.Issues.{lacks_leaves, lacks_nodes}
use Rattle.bt_tree.proofs.tree.Tree.has_ids.Goals as goal

pub returns-then-few-clause-lacks : goal.returns-then-few-clause-lacks
returns-then-few-clause-lacks g c = λ none.
    lacks_leaves g.R.S.Space g.R.Records c.args.self.now c.args.space.now c.args.leaf.now.items c.cut_places-places.result.0 c.cut_places-places.result.1 c.leaves_behind-leaves.result (c.leaves_behind-leaves.ensures _ _)
    (λ told. c.cut_places-places.ensures.cut (c.requires.over told)) (c.runs_past-few.ensures c.if-few.true)

pub returns-then-past-clause-lacks : goal.returns-then-past-clause-lacks
returns-then-past-clause-lacks g c = λ none.
    lacks_nodes g.R.S.Space g.R.Records c.args.self.now c.args.space.now c.args.leaf.now.items c.cut_places-places.result.0 c.cut_places-places.result.1 c.leaves_behind-leaves.result (c.leaves_behind-leaves.ensures _ _)
    (λ told. c.cut_places-places.ensures.cut (c.requires.over told)) c.in_ok-nodes.nodes c.in_ok-nodes.ensures.come (omega (arith, c.runs_past-past.ensures c.if-past.true, ap (λ (y : TreeHead). y.node_ids) c.nodes_above.ensures.peeks.still.head))
