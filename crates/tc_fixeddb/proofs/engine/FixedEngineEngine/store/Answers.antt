use Rattle.std.proofs.lemmas.Result.{IfErr-weaker, IfOk-weaker}
use Rattle.tc_fixeddb.specs.Lifting.{ready_down, refuses_up}
use Rattle.tc_fixeddb.proofs.Asked.{stores}
use Rattle.tc_fixeddb.proofs.engine.FixedEngineEngine.store.Goals as goal

pub store_at-requires-clause-ready : goal.store_at-requires-clause-ready
store_at-requires-clause-ready g c = ready_down g.S.Space c.args.self.now c.args.space.now c.requires

pub returns-clause-makes : goal.returns-clause-makes
returns-clause-makes g c = IfOk-weaker _ _ _ (λ done takes. stores g.S.Space _ _ _ _ c.args.mode c.args.key c.as_slice.result.now c.args.value c.in-Some.id done c.as_slice.ensures c.in-Some.ensures.names takes) c.store_at.ensures.takes

pub returns-clause-refused : goal.returns-clause-refused
returns-clause-refused g c = IfErr-weaker _ _ _ (λ _ refuses. refuses_up g.S.Space c.args.self.now (record c.args.self.now { fixed = c.store_at.new.fixed }) c.args.space.now c.store_at.new.space refuses c.store_at.ensures.shape) c.store_at.ensures.refused
