use Rattle.tc_fixeddb.specs.Lifting.{ready_down}
use Rattle.tc_fixeddb.proofs.Asked.{clears_all}
use Rattle.tc_fixeddb.proofs.engine.FixedEngineEngine.clear_all.Goals as goal

pub out_each-requires : goal.out_each-requires
out_each-requires g c = record { ready = ready_down g.S.Space c.args.self.now c.args.space.now c.requires }

pub returns-clause-makes : goal.returns-clause-makes
returns-clause-makes g c = clears_all g.S.Space _ _ _ _ c.args.keys c.as_slice.result.now c.as_slice.ensures c.in_ok-out_each.ensures.out c.out_each.ensures.shape
