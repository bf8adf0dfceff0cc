use Rattle.tc_hashdb.proofs.Told.{when_ok}
use Rattle.tc_treedb.proofs.Told.{three_front}
use Rattle.tc_tabledb.specs.Holding.{indexes_of}
use Rattle.tc_tabledb.proofs.Told.{all_added}
use Rattle.tc_tabledb.proofs.informing.add_lines.Goals as goal

pub returns-clause-added : goal.returns-clause-added
returns-clause-added g c = when_ok c.add_form.result (all_added _ _ _ _ c.args.head.now (indexes_of c.args.sides.now) c.is_large.result c.is_large.ensures c.in_ok-add_head.ensures.added c.in_ok-add_indexes.ensures.added) c.add_form.ensures.added

pub returns-clause-front : goal.returns-clause-front
returns-clause-front g c = three_front _ _ _ _ c.in_ok-add_head.ensures.front c.in_ok-add_indexes.ensures.front c.add_form.ensures.front
