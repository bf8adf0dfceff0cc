use Rattle.std.proofs.Common.{false}
use Rattle.tc_space.specs.Changes.{first_out, has_pair}
use Rattle.tc_btree.proofs.Fulls.{remove_full}
use Rattle.tc_btree.proofs.Puts.{list_stays, refused_up, taken_up}
use Rattle.tc_btree.proofs.multi.BtreeMulti.out.Goals as goal

pub returns-clause-out : goal.returns-clause-out
returns-clause-out g c = taken_up g.R.S.Space g.R.Records g.O.Order c.remove.result (has_pair c.args.key.now) (first_out g.O.Order.cmp c.args.key.now) _ _ _ _ c.remove.ensures.out

pub returns-clause-refused : goal.returns-clause-refused
returns-clause-refused g c = refused_up g.R.S.Space g.R.Records g.O.Order c.remove.result _ _ _ _ c.remove.ensures.refused

pub returns-clause-full : goal.returns-clause-full
returns-clause-full g c = λ is. remove_full g.R.S.Space g.R.Records g.O.Order false c.args.key.now c.args.self.now c.args.space.now c.remove.new.space (c.remove.ensures.full is)

pub returns-clause-stays : goal.returns-clause-stays
returns-clause-stays g c = list_stays g.R.Records _ _ c.remove.ensures.stays
