use Rattle.tc_treedb.proofs.Takings.{pair_added, pair_skipped}
use Rattle.tc_treedb.proofs.takers.add_pair.Goals as goal

pub returns-then-is_done-clause-added : goal.returns-then-is_done-clause-added
returns-then-is_done-clause-added c = pair_skipped c.args.key.now c.args.value.now c.args.into.now (c.is_done.ensures.done c.if-is_done.true)

pub returns-clause-added : goal.returns-clause-added
returns-clause-added c = pair_added c.args.key.now c.args.value.now c.args.into.now _ c.item.new.self c.is_done-2.result (c.is_done.ensures.free c.if-is_done.false) c.in_ok-item.ensures.added c.in_ok-item-2.ensures.added c.one_less-into.ensures c.is_done-2.ensures.done
