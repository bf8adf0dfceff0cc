use Rattle.tc_tabledb.proofs.Putting.{Putting}
use Rattle.tc_tabledb.proofs.storing.put_some.Given as goal

abbrev pub invariant-loop-key : goal.invariant-loop-key
invariant-loop-key g l = Putting g.R.S.Space g.R.Records g.L.Multi g.D.Multi l.fn.table l.table l.fn.space l.space l.initial.key-iterator l.key-iterator
