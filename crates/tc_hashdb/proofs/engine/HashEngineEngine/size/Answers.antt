use Rattle.tc_hashdb.specs.Lifting.{ready_down, reads_up}
use Rattle.tc_hashdb.proofs.engine.HashEngineEngine.size.Goals as goal

pub count_bytes-requires : goal.count_bytes-requires
count_bytes-requires g c = ready_down g.S.Space c.args.self.now c.args.space.now c.requires

pub returns-clause-reads : goal.returns-clause-reads
returns-clause-reads g c = reads_up g.S.Space _ _ _ _ c.count_bytes.ensures.reads
