use Rattle.tc_hashdb.specs.Lifting.{ready_down, reads_up}
use Rattle.tc_hashdb.proofs.engine.HashEngineEngine.value_len.Goals as goal

pub find_len-requires : goal.find_len-requires
find_len-requires g c = ready_down g.S.Space c.args.self.now c.args.space.now c.requires

pub returns-clause-reads : goal.returns-clause-reads
returns-clause-reads g c = reads_up g.S.Space _ _ _ _ c.find_len.ensures.reads
