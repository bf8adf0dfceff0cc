use Rattle.tc_fixeddb.proofs.Stored.{clear_takes}
use Rattle.tc_fixeddb.proofs.storing.clear.Goals as goal

pub returns-clause-takes : goal.returns-clause-takes
returns-clause-takes g c = clear_takes g.S.Space _ _ _ _ c.in_ok-clear.ensures.clear c.clear.ensures.shape
