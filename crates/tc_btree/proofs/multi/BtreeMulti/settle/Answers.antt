use Rattle.tc_space.specs.Changes.{same}
use Rattle.tc_btree.proofs.Puts.{list_settled, packs_up, refused_up, stands_up, trims_up, written_up}
use Rattle.tc_btree.proofs.multi.BtreeMulti.settle.Goals as goal

pub returns-clause-settled : goal.returns-clause-settled
returns-clause-settled g c = written_up g.R.S.Space g.R.Records g.O.Order c.settle.result same _ _ _ _ c.settle.ensures.settled

pub returns-clause-stands : goal.returns-clause-stands
returns-clause-stands g c = stands_up g.R.S.Space g.R.Records g.O.Order c.settle.result c.args.self.now _ _ c.settle.ensures.stands

pub returns-clause-packs : goal.returns-clause-packs
returns-clause-packs g c = packs_up g.R.S.Space g.R.Records g.O.Order c.settle.result c.args.self.now _ _ c.settle.ensures.packs

pub returns-clause-trims : goal.returns-clause-trims
returns-clause-trims g c = trims_up g.R.S.Space g.R.Records g.O.Order c.settle.result c.args.self.now _ _ c.settle.ensures.packs

pub returns-clause-refused : goal.returns-clause-refused
returns-clause-refused g c = refused_up g.R.S.Space g.R.Records g.O.Order c.settle.result _ _ _ _ c.settle.ensures.refused

pub returns-clause-stays : goal.returns-clause-stays
returns-clause-stays g c = list_settled g.R.Records _ _ c.settle.ensures.stays
