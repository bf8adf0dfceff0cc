use Rattle.std.proofs.lemmas.Result.{IfOk-weaker}
use Rattle.tc_hashdb.specs.Lifting.{ready_down, refused_up}
use Rattle.tc_hashdb.proofs.Asked.{store_full, stores}
use Rattle.tc_hashdb.proofs.engine.HashEngineEngine.store.Goals as goal

pub store_at-requires : goal.store_at-requires
store_at-requires g c = ready_down g.S.Space c.args.self.now c.args.space.now c.requires

pub returns-clause-makes : goal.returns-clause-makes
returns-clause-makes g c = IfOk-weaker _ _ _ (λ done takes. stores g.S.Space _ _ _ _ c.args.mode c.args.key c.as_slice.result.now c.args.value c.as_slice-2.result.now done c.as_slice.ensures c.as_slice-2.ensures takes) c.store_at.ensures.takes

pub returns-clause-refused : goal.returns-clause-refused
returns-clause-refused g c = refused_up g.S.Space c.store_at.result c.args.self.now c.store_at.new.self c.args.space.now c.store_at.new.space c.store_at.ensures.refused

pub returns-clause-full : goal.returns-clause-full
returns-clause-full g c = λ full. store_full g.S.Space _ _ _ c.args.mode c.args.key c.as_slice.result.now c.args.value c.as_slice-2.result.now c.as_slice.ensures c.as_slice-2.ensures (c.store_at.ensures.full full)
