use Rattle.tc_hashdb.proofs.Told.{when_ok}
use Rattle.tc_treedb.proofs.Told.{all_added, three_front}
use Rattle.tc_treedb.proofs.informing.add_lines.Goals as goal

pub returns-clause-added : goal.returns-clause-added
returns-clause-added c = when_ok c.add_form.result (all_added _ _ _ _ c.args.head.now c.read.result c.args.height c.is_large.result c.read.ensures c.is_large.ensures c.in_ok-add_head.ensures.added c.in_ok-add_tree.ensures.added) c.add_form.ensures.added

pub returns-clause-front : goal.returns-clause-front
returns-clause-front c = three_front _ _ _ _ c.in_ok-add_head.ensures.front c.in_ok-add_tree.ensures.front c.add_form.ensures.front
