use Rattle.std.proofs.Common.{refl}
use Rattle.tc_base.specs.Lists.{values}
use Rattle.tc_treedb.proofs.Looked.{front_over, looks_asks}
use Rattle.tc_treedb.proofs.Readings.{pairs_found}
use Rattle.tc_treedb.proofs.reading.add_pairs.Goals as goal

pub returns-in_err-held-clause-front : goal.returns-in_err-held-clause-front
returns-in_err-held-clause-front g c = front_over _ _ _ _ c.taken_over.ensures c.given_back.ensures c.show-held.ensures.stays

pub returns-in_err-held-clause-looks : goal.returns-in_err-held-clause-looks
returns-in_err-held-clause-looks g c = looks_asks g.R.S.Space g.R.Records g.O.Order _ _ _ _ _ _ _ c.show-held.ensures.asks

pub returns-clause-rows : goal.returns-clause-rows
returns-clause-rows g c = λ ps h. pairs_found c.args.key.now (values ps c.args.key.now) _ _ c.show-held.new.taker c.args.into.now c.given_back.new.rows c.taken_over.ensures c.given_back.ensures refl (c.in_ok-held.ensures.shown ps h)

pub returns-clause-front : goal.returns-clause-front
returns-clause-front g c = front_over _ _ _ _ c.taken_over.ensures c.given_back.ensures c.show-held.ensures.stays

pub returns-clause-looks : goal.returns-clause-looks
returns-clause-looks g c = looks_asks g.R.S.Space g.R.Records g.O.Order _ _ _ _ _ _ _ c.show-held.ensures.asks
