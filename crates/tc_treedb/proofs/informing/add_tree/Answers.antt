use Rattle.tc_hashdb.proofs.Told.{when_ok}
use Rattle.tc_treedb.proofs.Told.{three_front, tree_added}
use Rattle.tc_treedb.proofs.informing.add_tree.Goals as goal

pub returns-clause-added : goal.returns-clause-added
returns-clause-added c = when_ok c.add_line-3.result (tree_added _ _ _ _ c.args.tree.now c.args.height c.from.result c.from-2.result c.from.ensures c.from-2.ensures c.in_ok-add_line.ensures.added c.in_ok-add_line-2.ensures.added) c.add_line-3.ensures.added

pub returns-clause-front : goal.returns-clause-front
returns-clause-front c = three_front _ _ _ _ c.in_ok-add_line.ensures.front c.in_ok-add_line-2.ensures.front c.add_line-3.ensures.front
