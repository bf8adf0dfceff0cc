use Rattle.tc_tabledb.proofs.Lifting.{only_reads_up}
use Rattle.tc_tabledb.proofs.Told.{head_there, told_is}
use Rattle.tc_tabledb.proofs.engine.TableEngineStorage.inform.Goals as goal

pub read_head-requires : goal.read_head-requires
read_head-requires g c = record { sound = c.requires.sound; head = λ t. let h = c.requires.settled t in head_there g.S.Space _ _ _ c.table_stores.ensures.store c.args.self.now (g.S.Space.now c.args.space.now) h.0 h.1 h.2 }

pub add_lines-requires : goal.add_lines-requires
add_lines-requires g c = (c.in_ok-read.ensures.valid c.in-Some.head c.in-Some.is).powers.1

pub returns-in_err-read-clause-reads : goal.returns-in_err-read-clause-reads
returns-in_err-read-clause-reads g c = only_reads_up g.S.Space _ _ _ _ _ _ c.read_head.ensures.reads

pub returns-in_default-clause-reads : goal.returns-in_default-clause-reads
returns-in_default-clause-reads g c = only_reads_up g.S.Space _ _ _ _ _ _ c.read_head.ensures.reads

pub returns-in_err-add_lines-clause-reads : goal.returns-in_err-add_lines-clause-reads
returns-in_err-add_lines-clause-reads g c = only_reads_up g.S.Space _ _ _ _ _ _ c.read_head.ensures.reads

pub returns-clause-reads : goal.returns-clause-reads
returns-clause-reads g c = only_reads_up g.S.Space _ _ _ _ _ _ c.read_head.ensures.reads

pub returns-clause-told : goal.returns-clause-told
returns-clause-told g c = λ t. let h = c.requires.settled t in told_is g.S.Space _ _ _ c.table_stores.ensures.store c.args.self.now (g.S.Space.now c.args.space.now) h.0 c.args.into.now c.add_lines.new.into c.in-Some.head c.in_ok-read.read c.as_slice.result.now c.as_slice.ensures.value h.1 h.2 c.in-Some.is (c.in_ok-read.ensures.head t) c.in_ok-add_lines.ensures.added
