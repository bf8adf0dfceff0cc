use Rattle.std.proofs.Common.{List, refl, subst}
use Rattle.tc_base.specs.declared.seq.Pair.{Pair}
use Rattle.tc_treedb.proofs.Looked.{looks_scans}
use Rattle.tc_treedb.proofs.Readings.{AreBytes, all_in, bytes_are, bytes_visited}
use Rattle.tc_treedb.proofs.reading.all_bytes.Goals as goal

pub returns-in_err-visit-clause-looks : goal.returns-in_err-visit-clause-looks
returns-in_err-visit-clause-looks g c = looks_scans g.R.S.Space g.R.Records g.O.Order _ _ _ _ _ _ c.visit.ensures.asks

pub returns-in-Some-clause-value : goal.returns-in-Some-clause-value
returns-in-Some-clause-value g c = λ ps h. bytes_are c.visit.new.taker.bytes _ ps c.in-Some.is
    (subst (λ (l : List Pair). AreBytes c.visit.new.taker.bytes l) (all_in ps) (bytes_visited g.O.Order.cmp _ _ _ _ _ c.visit.new.taker refl (c.in_ok-visit.ensures.shown ps h)))

pub returns-in-Some-clause-looks : goal.returns-in-Some-clause-looks
returns-in-Some-clause-looks g c = looks_scans g.R.S.Space g.R.Records g.O.Order _ _ _ _ _ _ c.visit.ensures.asks

pub returns-in-None-clause-looks : goal.returns-in-None-clause-looks
returns-in-None-clause-looks g c = looks_scans g.R.S.Space g.R.Records g.O.Order _ _ _ _ _ _ c.visit.ensures.asks
