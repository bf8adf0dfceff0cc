use Rattle.tc_fixeddb.specs.Lifting.{ready_down, reads_up}
use Rattle.tc_fixeddb.proofs.engine.FixedEngineEngine.value_len.Goals as goal

pub value_len-requires : goal.value_len-requires
value_len-requires g c = record { ready = ready_down g.S.Space c.args.self.now c.args.space.now c.requires }

pub returns-clause-reads : goal.returns-clause-reads
returns-clause-reads g c = reads_up g.S.Space _ _ _ _ c.value_len.ensures.reads c.value_len.ensures.shape

pub returns-in_err-value_len-clause-reads : goal.returns-in_err-value_len-clause-reads
returns-in_err-value_len-clause-reads g c = reads_up g.S.Space _ _ _ _ c.value_len.ensures.reads c.value_len.ensures.shape
