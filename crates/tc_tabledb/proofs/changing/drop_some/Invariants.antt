use Rattle.tc_tabledb.proofs.Dropped.{Dropping}
use Rattle.tc_tabledb.proofs.changing.drop_some.Given as goal

abbrev pub invariant-loop-i : goal.invariant-loop-i
invariant-loop-i g l = Dropping g.R.S.Space g.R.Records g.L.Multi g.D.Multi l.row_keys l.i l.fn.table l.table l.fn.space l.space
