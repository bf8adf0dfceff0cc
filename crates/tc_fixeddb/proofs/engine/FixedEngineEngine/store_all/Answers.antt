use Rattle.std.proofs.Common.{rules}
use Rattle.tc_fixeddb.specs.Lifting.{ready_down}
use Rattle.tc_fixeddb.proofs.Whole.{store_all_full, stores_all, stores_none}
use Rattle.tc_fixeddb.proofs.engine.FixedEngineEngine.store_all.Goals as goal

pub returns-then-not-can_store-clause-makes : goal.returns-then-not-can_store-clause-makes
returns-then-not-can_store-clause-makes g c = stores_none g.S.Space _ _ c.args.pairs c.as_slice.result.now c.can_store.result c.requires.sound c.as_slice.ensures c.can_store.ensures c.if-not-can_store.true

pub set_each-requires : goal.set_each-requires
set_each-requires g c = record { ready = ready_down g.S.Space c.args.self.now c.args.space.now c.requires }

pub returns-clause-makes : goal.returns-clause-makes
returns-clause-makes g c = stores_all g.S.Space _ _ _ _ c.args.pairs c.as_slice.result.now c.as_slice-2.result.now c.can_store.result c.as_slice.ensures c.as_slice-2.ensures c.can_store.ensures c.if-not-can_store.false c.in_ok-set_each.ensures.set c.set_each.ensures.shape

pub returns-in_err-set_each-clause-full : goal.returns-in_err-set_each-clause-full
returns-in_err-set_each-clause-full g c = λ full. store_all_full g.S.Space _ _ _ c.args.pairs c.as_slice.result.now c.as_slice-2.result.now c.can_store.result c.as_slice.ensures c.as_slice-2.ensures c.can_store.ensures c.if-not-can_store.false (c.in_err-set_each.ensures.full (search (rules, full)))
