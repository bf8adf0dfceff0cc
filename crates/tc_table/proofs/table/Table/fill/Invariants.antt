use Rattle.tc_table.proofs.Added.{Filling}
use Rattle.tc_table.proofs.table.Table.fill.Given as goal

abbrev pub invariant-loop-i : goal.invariant-loop-i
invariant-loop-i g l = Filling g.R.S.Space g.R.Records g.L.Multi g.D.Multi l.row_keys l.i l.fn.side l.side l.fn.self l.self l.fn.space l.space
