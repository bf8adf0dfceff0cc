use Rattle.std.proofs.Common.{length}
use Rattle.tc_hashdb.specs.Lifting.{ready_down, reads_up}
use Rattle.tc_hashdb.proofs.engine.HashEngineEngine.value.Goals as goal

pub find-requires : goal.find-requires
find-requires g c = ready_down g.S.Space c.args.self.now c.args.space.now c.requires

pub returns-clause-reads : goal.returns-clause-reads
returns-clause-reads g c = reads_up g.S.Space _ _ _ _ c.find.ensures.reads

pub returns-clause-fills : goal.returns-clause-fills
returns-clause-fills g c = λ t new d e full. full
