use Rattle.std.proofs.Common.{[]}
use Rattle.tc_btree.proofs.Fulls.{clear_full}
use Rattle.tc_btree.proofs.Puts.{list_stays, refused_up, written_up}
use Rattle.tc_btree.proofs.multi.BtreeMulti.clear.Goals as goal

pub returns-clause-cleared : goal.returns-clause-cleared
returns-clause-cleared g c = written_up g.R.S.Space g.R.Records g.O.Order c.clear_all.result (λ ps. []) _ _ _ _ c.clear_all.ensures.cleared

pub returns-clause-refused : goal.returns-clause-refused
returns-clause-refused g c = refused_up g.R.S.Space g.R.Records g.O.Order c.clear_all.result _ _ _ _ c.clear_all.ensures.refused

pub returns-clause-full : goal.returns-clause-full
returns-clause-full g c = λ is. clear_full g.R.S.Space g.R.Records g.O.Order c.args.self.now c.args.space.now c.clear_all.new.space (c.clear_all.ensures.full is)

pub returns-clause-stays : goal.returns-clause-stays
returns-clause-stays g c = list_stays g.R.Records _ _ c.clear_all.ensures.stays
