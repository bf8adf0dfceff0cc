use Rattle.std.proofs.Common.{refl, true}
use Rattle.tc_space.specs.Changes.{put_last}
use Rattle.tc_btree.proofs.Fulls.{insert_full}
use Rattle.tc_btree.proofs.Looking.{looked_refl}
use Rattle.tc_btree.proofs.Puts.{list_stays, refused_up, written_up}
use Rattle.tc_btree.proofs.multi.BtreeMulti.putdup.Goals as goal

pub returns-clause-put : goal.returns-clause-put
returns-clause-put g c = written_up g.R.S.Space g.R.Records g.O.Order c.insert.result (put_last g.O.Order.cmp c.args.key.now c.args.value.now) _ _ _ _ c.insert.ensures.inserted

pub returns-clause-refused : goal.returns-clause-refused
returns-clause-refused g c = refused_up g.R.S.Space g.R.Records g.O.Order c.insert.result _ _ _ _ c.insert.ensures.refused

pub returns-clause-full : goal.returns-clause-full
returns-clause-full g c = λ is.
    insert_full g.R.S.Space g.R.Records g.O.Order true c.args.key.now c.args.value.now (put_last g.O.Order.cmp c.args.key.now c.args.value.now) c.args.self.now c.args.self.now c.args.space.now c.args.space.now c.insert.new.space
    (looked_refl g.R.S.Space g.R.Records g.O.Order c.args.self.now c.args.space.now c.requires.sound) (λ ps h. refl) (c.insert.ensures.full is)

pub returns-clause-stays : goal.returns-clause-stays
returns-clause-stays g c = list_stays g.R.Records _ _ c.insert.ensures.stays
