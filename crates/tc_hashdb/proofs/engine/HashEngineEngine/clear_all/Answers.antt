use Rattle.std.proofs.Common.{inl}
use Rattle.tc_hashdb.specs.Lifting.{ready_down}
use Rattle.tc_hashdb.proofs.Asked.{clear_all_full, clears_all}
use Rattle.tc_reach.proofs.Handed.{err_handed}
use Rattle.tc_hashdb.proofs.engine.HashEngineEngine.clear_all.Goals as goal

pub drop_each-requires : goal.drop_each-requires
drop_each-requires g c = record { ready = ready_down g.S.Space c.args.self.now c.args.space.now c.requires }

pub returns-in_err-drop_each-clause-full : goal.returns-in_err-drop_each-clause-full
returns-in_err-drop_each-clause-full g c = λ full. clear_all_full g.S.Space _ _ _ c.args.keys c.as_slice.result.now c.as_slice.ensures (λ m means. inl (c.in_err-drop_each.ensures.full (err_handed _ _ _ c.from_residual.ensures.1 full) means.0))

pub returns-clause-makes : goal.returns-clause-makes
returns-clause-makes g c = clears_all g.S.Space _ _ _ _ c.args.keys c.as_slice.result.now c.as_slice.ensures c.drop_each.ensures.numbers c.in_ok-drop_each.ensures.out
