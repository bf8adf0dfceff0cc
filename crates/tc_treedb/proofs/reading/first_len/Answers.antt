use Rattle.tc_base.specs.Lists.{values}
use Rattle.tc_treedb.proofs.Looked.{looks_asks}
use Rattle.tc_treedb.proofs.Readings.{len_found, len_none}
use Rattle.tc_treedb.proofs.reading.first_len.Goals as goal

pub returns-in_err-show-clause-looks : goal.returns-in_err-show-clause-looks
returns-in_err-show-clause-looks g c = looks_asks g.R.S.Space g.R.Records g.O.Order _ _ _ _ _ _ _ c.show.ensures.asks

pub returns-then-not-branch-clause-value : goal.returns-then-not-branch-clause-value
returns-then-not-branch-clause-value g c = λ ps h. len_none c.args.key.now (values ps c.args.key.now) _ _ _ c.if-not-branch.true (c.in_ok-show.ensures.shown ps h)

pub returns-then-not-branch-clause-looks : goal.returns-then-not-branch-clause-looks
returns-then-not-branch-clause-looks g c = looks_asks g.R.S.Space g.R.Records g.O.Order _ _ _ _ _ _ _ c.show.ensures.asks

pub returns-clause-value : goal.returns-clause-value
returns-clause-value g c = λ ps h. len_found c.args.key.now (values ps c.args.key.now) _ _ _ c.if-not-branch.false (c.in_ok-show.ensures.shown ps h)

pub returns-clause-looks : goal.returns-clause-looks
returns-clause-looks g c = looks_asks g.R.S.Space g.R.Records g.O.Order _ _ _ _ _ _ _ c.show.ensures.asks
