use Rattle.tc_fixeddb.proofs.Stored.{over_takes}
use Rattle.tc_fixeddb.proofs.storing.store_over.Goals as goal

pub returns-clause-takes : goal.returns-clause-takes
returns-clause-takes g c = over_takes g.S.Space _ _ _ _ c.args.id c.args.value.now c.in_ok-put_cut.ensures.put c.put_cut.ensures.shape
