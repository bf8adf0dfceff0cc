use Rattle.std.proofs.Common.{refl}
use Rattle.tc_base.specs.Lists.{values}
use Rattle.tc_treedb.proofs.Looked.{front_over, looks_asks}
use Rattle.tc_treedb.specs.Reading.{AnswersHeld}
use Rattle.tc_treedb.proofs.Readings.{first_row_found, from_ok}
use Rattle.tc_treedb.proofs.reading.add_first.Goals as goal

pub returns-clause-added : goal.returns-clause-added
returns-clause-added g c = from_ok _ (λ held. AnswersHeld g.R.S.Space g.R.Records g.O.Order c.args.with_key c.args.key.now held c.args.tree.now c.args.space.now c.args.into.now c.given_back.new.rows) c.show-held.result c.show-held.ensures.shown
    (λ held shown ps h. first_row_found c.args.with_key c.args.key.now (values ps c.args.key.now) held _ c.show-held.new.taker c.args.into.now c.given_back.new.rows ps refl c.taken_over.ensures c.given_back.ensures refl (shown ps h))

pub returns-clause-front : goal.returns-clause-front
returns-clause-front g c = front_over _ _ _ _ c.taken_over.ensures c.given_back.ensures c.show-held.ensures.stays

pub returns-clause-looks : goal.returns-clause-looks
returns-clause-looks g c = looks_asks g.R.S.Space g.R.Records g.O.Order _ _ _ _ _ _ _ c.show-held.ensures.asks
