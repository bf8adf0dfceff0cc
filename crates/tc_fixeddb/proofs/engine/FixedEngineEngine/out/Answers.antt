use Rattle.std.proofs.lemmas.Result.{IfErr-weaker, IfOk-weaker}
use Rattle.tc_fixeddb.specs.Lifting.{ready_down, refuses_up}
use Rattle.tc_fixeddb.proofs.Asked.{takes_out}
use Rattle.tc_fixeddb.proofs.engine.FixedEngineEngine.out.Goals as goal

pub out_at-requires : goal.out_at-requires
out_at-requires g c = record { ready = ready_down g.S.Space c.args.self.now c.args.space.now c.requires }

pub returns-clause-makes : goal.returns-clause-makes
returns-clause-makes g c = IfOk-weaker _ _ _ (λ done takes. takes_out g.S.Space _ _ _ _ c.args.key.now c.as_slice.result.now c.in-Some.id done c.as_slice.ensures c.in-Some.ensures.names takes) c.out_at.ensures.takes

pub returns-clause-refused : goal.returns-clause-refused
returns-clause-refused g c = IfErr-weaker _ _ _ (λ _ refuses. refuses_up g.S.Space c.args.self.now (record c.args.self.now { fixed = c.out_at.new.fixed }) c.args.space.now c.out_at.new.space refuses c.out_at.ensures.shape) c.out_at.ensures.refused
