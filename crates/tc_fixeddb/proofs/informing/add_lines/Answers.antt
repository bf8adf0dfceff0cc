use Rattle.tc_fixeddb.proofs.Lines.{lines_added}
use Rattle.tc_fixeddb.proofs.informing.add_lines.Goals as goal

pub returns-clause-added : goal.returns-clause-added
returns-clause-added c = lines_added _ _ _ _ c.args.head.now c.from.result c.from.ensures c.in_ok-add_line.ensures.added c.in_ok-add_line-2.ensures.added c.in_ok-add_line-3.ensures.added
