use Rattle.tc_hashdb.proofs.Told.{when_ok}
use Rattle.tc_treedb.proofs.Told.{five_front, head_added}
use Rattle.tc_tabledb.proofs.informing.add_head.Goals as goal

pub returns-clause-added : goal.returns-clause-added
returns-clause-added c = when_ok c.add_line-5.result (head_added _ _ _ _ _ _ c.args.head.now c.unit.result c.from.result c.unit.ensures c.from.ensures c.in_ok-add_line.ensures.added c.in_ok-add_line-2.ensures.added c.in_ok-add_line-3.ensures.added c.in_ok-add_line-4.ensures.added) c.add_line-5.ensures.added

pub returns-clause-front : goal.returns-clause-front
returns-clause-front c = five_front _ _ _ _ _ _ c.in_ok-add_line.ensures.front c.in_ok-add_line-2.ensures.front c.in_ok-add_line-3.ensures.front c.in_ok-add_line-4.ensures.front c.add_line-5.ensures.front
