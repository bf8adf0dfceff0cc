use Rattle.tc_space.specs.Changes.{same}
use Rattle.tc_btree.proofs.Puts.{list_formed, refused_up, tight_up, written_up}
use Rattle.tc_btree.proofs.multi.BtreeMulti.pack.Goals as goal

pub returns-clause-packed : goal.returns-clause-packed
returns-clause-packed g c = written_up g.R.S.Space g.R.Records g.O.Order c.pack.result same _ _ _ _ c.pack.ensures.packed

pub returns-clause-tight : goal.returns-clause-tight
returns-clause-tight g c = tight_up g.R.S.Space g.R.Records g.O.Order c.pack.result c.args.form c.args.self.now (record c.args.self.now { tree = c.pack.new.self }) _ _ c.pack.ensures.tight

pub returns-clause-refused : goal.returns-clause-refused
returns-clause-refused g c = refused_up g.R.S.Space g.R.Records g.O.Order c.pack.result _ _ _ _ c.pack.ensures.refused

pub returns-clause-stays : goal.returns-clause-stays
returns-clause-stays g c = list_formed g.R.Records _ _ g.R.S.Space c.args.form _ c.pack.new.space c.pack.ensures.stays
