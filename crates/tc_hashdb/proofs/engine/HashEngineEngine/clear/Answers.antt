use Rattle.std.proofs.lemmas.Result.{IfOk-weaker}
use Rattle.tc_hashdb.specs.Lifting.{ready_down, refused_up}
use Rattle.tc_hashdb.proofs.Asked.{clear_full, clears}
use Rattle.tc_hashdb.proofs.engine.HashEngineEngine.clear.Goals as goal

pub clear_all_keys-requires : goal.clear_all_keys-requires
clear_all_keys-requires g c = ready_down g.S.Space c.args.self.now c.args.space.now c.requires

pub returns-clause-makes : goal.returns-clause-makes
returns-clause-makes g c = IfOk-weaker _ _ _ (λ done takes. clears g.S.Space _ _ _ _ done takes) c.clear_all_keys.ensures.takes

pub returns-clause-refused : goal.returns-clause-refused
returns-clause-refused g c = refused_up g.S.Space c.clear_all_keys.result c.args.self.now c.clear_all_keys.new.self c.args.space.now c.clear_all_keys.new.space c.clear_all_keys.ensures.refused

pub returns-clause-full : goal.returns-clause-full
returns-clause-full g c = λ full. clear_full g.S.Space c.args.self.now c.args.space.now c.clear_all_keys.new.space (c.clear_all_keys.ensures.full full)
