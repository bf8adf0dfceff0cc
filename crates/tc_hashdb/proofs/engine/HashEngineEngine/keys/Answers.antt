use Rattle.tc_hashdb.specs.Lifting.{ready_down, reads_up}
use Rattle.tc_hashdb.proofs.engine.HashEngineEngine.keys.Goals as goal

pub list-requires : goal.list-requires
list-requires g c = ready_down g.S.Space c.args.self.now c.args.space.now c.requires

pub returns-in_err-all-clause-reads : goal.returns-in_err-all-clause-reads
returns-in_err-all-clause-reads g c = reads_up g.S.Space _ _ _ _ c.list.ensures.reads

pub returns-in_err-keys-clause-reads : goal.returns-in_err-keys-clause-reads
returns-in_err-keys-clause-reads g c = reads_up g.S.Space _ _ _ _ c.list.ensures.reads

pub returns-clause-reads : goal.returns-clause-reads
returns-clause-reads g c = reads_up g.S.Space _ _ _ _ c.list.ensures.reads
