use Rattle.std.proofs.lemmas.Result.{IfOk-weaker}
use Rattle.tc_hashdb.specs.Lifting.{ready_down, refused_up}
use Rattle.tc_hashdb.proofs.Asked.{take_full, takes_key}
use Rattle.tc_hashdb.proofs.Stored.{lacks_log}
use Rattle.tc_hashdb.proofs.engine.HashEngineEngine.out.Goals as goal

pub out_at-requires : goal.out_at-requires
out_at-requires g c = ready_down g.S.Space c.args.self.now c.args.space.now c.requires

pub returns-clause-makes : goal.returns-clause-makes
returns-clause-makes g c = IfOk-weaker _ _ _ (λ done takes. takes_key g.S.Space _ _ _ _ c.args.key.now c.as_slice.result.now done c.as_slice.ensures takes) c.out_at.ensures.takes

pub returns-clause-refused : goal.returns-clause-refused
returns-clause-refused g c = refused_up g.S.Space c.out_at.result c.args.self.now c.out_at.new.self c.args.space.now c.out_at.new.space c.out_at.ensures.refused

pub returns-clause-full : goal.returns-clause-full
returns-clause-full g c = λ is. take_full g.S.Space c.args.self.now c.args.space.now c.out_at.new.space c.args.key.now c.as_slice.result.now c.as_slice.ensures (lacks_log g.S.Space _ c.args.self.now c.args.space.now c.out_at.new.space (c.out_at.ensures.full is).1)
