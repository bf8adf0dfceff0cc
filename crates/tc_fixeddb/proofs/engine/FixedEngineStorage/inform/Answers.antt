use Rattle.std.proofs.Common.{take}
use Rattle.tc_fixeddb.proofs.Told.{only_reads_up, told_is}
use Rattle.tc_fixeddb.proofs.engine.FixedEngineStorage.inform.Goals as goal

pub returns-in_err-head-clause-reads : goal.returns-in_err-head-clause-reads
returns-in_err-head-clause-reads g c = only_reads_up g.S.Space _ _ _ c.read_head.ensures.reads

pub returns-in_err-add_lines-clause-reads : goal.returns-in_err-add_lines-clause-reads
returns-in_err-add_lines-clause-reads g c = only_reads_up g.S.Space _ _ _ c.read_head.ensures.reads

pub returns-clause-told : goal.returns-clause-told
returns-clause-told g c = λ t. told_is (take 256 (g.S.Space.now c.args.space.now 0)) c.args.into.now c.add_lines.new.into c.in-Some.head c.in_ok-head.field-0 c.in-Some.is (c.in_ok-head.ensures.head t) c.in_ok-add_lines.ensures.added

pub returns-clause-reads : goal.returns-clause-reads
returns-clause-reads g c = only_reads_up g.S.Space _ _ _ c.read_head.ensures.reads
