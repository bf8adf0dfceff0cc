use Rattle.tc_hashdb.proofs.Told.{lines_added, lines_front, when_ok}
use Rattle.tc_hashdb.proofs.informing.add_lines.Goals as goal

pub returns-clause-added : goal.returns-clause-added
returns-clause-added c = when_ok c.add_form.result (lines_added _ _ _ _ _ _ _ c.args.head.now c.unit.result c.from.result c.is_large.result c.unit.ensures c.from.ensures c.is_large.ensures c.in_ok-add_line.ensures.added c.in_ok-add_line-2.ensures.added c.in_ok-add_line-3.ensures.added c.in_ok-add_line-4.ensures.added c.in_ok-add_line-5.ensures.added) c.add_form.ensures.added

pub returns-clause-front : goal.returns-clause-front
returns-clause-front c = lines_front _ _ _ _ _ _ _ c.in_ok-add_line.ensures.front c.in_ok-add_line-2.ensures.front c.in_ok-add_line-3.ensures.front c.in_ok-add_line-4.ensures.front c.in_ok-add_line-5.ensures.front c.add_form.ensures.front
