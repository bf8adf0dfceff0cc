use Rattle.std.proofs.Common.{ap, ◌∙◌}
use Rattle.tc_base.specs.Lists.{keys}
use Rattle.tc_treedb.proofs.Looked.{looks_scans}
use Rattle.tc_treedb.proofs.Readings.{all_in, keys_visited}
use Rattle.tc_treedb.proofs.reading.all_keys.Goals as goal

pub returns-in_err-visit-clause-looks : goal.returns-in_err-visit-clause-looks
returns-in_err-visit-clause-looks g c = looks_scans g.R.S.Space g.R.Records g.O.Order _ _ _ _ _ _ c.visit.ensures.asks

pub returns-clause-value : goal.returns-clause-value
returns-clause-value g c = λ ps h. keys_visited g.O.Order.cmp g.met.O.Order.total _ _ _ _ _ c.visit.new.taker c.new.ensures (c.in_ok-visit.ensures.shown ps h) ∙ ap keys (all_in ps)

pub returns-clause-looks : goal.returns-clause-looks
returns-clause-looks g c = looks_scans g.R.S.Space g.R.Records g.O.Order _ _ _ _ _ _ c.visit.ensures.asks
