use Rattle.tc_hashdb.specs.Lifting.{ready_down, reads_up}
use Rattle.tc_hashdb.proofs.engine.HashEngineEngine.pair.Goals as goal

pub find-requires : goal.find-requires
find-requires g c = ready_down g.S.Space c.args.self.now c.args.space.now c.requires

pub returns-in_err-found-clause-reads : goal.returns-in_err-found-clause-reads
returns-in_err-found-clause-reads g c = reads_up g.S.Space _ _ _ _ c.find.ensures.reads

pub returns-in_default-clause-reads : goal.returns-in_default-clause-reads
returns-in_default-clause-reads g c = reads_up g.S.Space _ _ _ _ c.find.ensures.reads

pub returns-in_err-pair-clause-reads : goal.returns-in_err-pair-clause-reads
returns-in_err-pair-clause-reads g c = reads_up g.S.Space _ _ _ _ c.find.ensures.reads

pub returns-clause-reads : goal.returns-clause-reads
returns-clause-reads g c = reads_up g.S.Space _ _ _ _ c.find.ensures.reads
