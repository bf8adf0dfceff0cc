use Rattle.tc_hashdb.specs.Lifting.{ready_down, refuses_up}
use Rattle.tc_hashdb.proofs.Asked.{store_all_full, stores_all, stores_none}
use Rattle.tc_reach.proofs.Handed.{err_handed, on_err_any}
use Rattle.tc_hashdb.proofs.engine.HashEngineEngine.store_all.Goals as goal

pub returns-then-not-are_short-clause-makes : goal.returns-then-not-are_short-clause-makes
returns-then-not-are_short-clause-makes g c = stores_none g.S.Space _ _ c.args.pairs c.as_slice.result.now c.are_short.result c.requires.sound c.as_slice.ensures c.are_short.ensures c.if-not-are_short.true

pub set_all-requires : goal.set_all-requires
set_all-requires g c = record { ready = ready_down g.S.Space c.args.self.now c.args.space.now c.requires }

pub returns-in_err-set_all-clause-refused : goal.returns-in_err-set_all-clause-refused
returns-in_err-set_all-clause-refused g c = on_err_any _ (refuses_up g.S.Space _ _ _ _ c.in_err-set_all.ensures.refused)

pub returns-in_err-set_all-clause-full : goal.returns-in_err-set_all-clause-full
returns-in_err-set_all-clause-full g c = λ full. store_all_full g.S.Space _ _ _ c.args.pairs c.as_slice.result.now c.are_short.result c.as_slice.ensures c.are_short.ensures c.if-not-are_short.false (c.in_err-set_all.ensures.full (err_handed _ _ _ c.from_residual.ensures.1 full))

pub returns-clause-makes : goal.returns-clause-makes
returns-clause-makes g c = stores_all g.S.Space _ _ _ _ c.args.pairs c.as_slice.result.now c.are_short.result c.as_slice.ensures c.are_short.ensures c.if-not-are_short.false c.set_all.ensures.numbers c.in_ok-set_all.ensures.set
