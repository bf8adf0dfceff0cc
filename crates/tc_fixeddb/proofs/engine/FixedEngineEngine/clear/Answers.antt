use Rattle.std.proofs.lemmas.Result.{IfErr-weaker, IfOk-weaker}
use Rattle.tc_fixeddb.specs.Lifting.{ready_down, refuses_up}
use Rattle.tc_fixeddb.proofs.Asked.{clears}
use Rattle.tc_fixeddb.proofs.engine.FixedEngineEngine.clear.Goals as goal

pub clear-requires : goal.clear-requires
clear-requires g c = record { ready = ready_down g.S.Space c.args.self.now c.args.space.now c.requires }

pub returns-clause-makes : goal.returns-clause-makes
returns-clause-makes g c = IfOk-weaker _ _ _ (λ done takes. clears g.S.Space _ _ _ _ done takes) c.clear.ensures.takes

pub returns-clause-refused : goal.returns-clause-refused
returns-clause-refused g c = IfErr-weaker _ _ _ (λ _ refuses. refuses_up g.S.Space c.args.self.now (record c.args.self.now { fixed = c.clear.new.fixed }) c.args.space.now c.clear.new.space refuses c.clear.ensures.shape) c.clear.ensures.refused
