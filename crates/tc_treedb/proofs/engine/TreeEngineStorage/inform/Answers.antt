use Rattle.tc_treedb.specs.Lifting.{only_reads_up}
use Rattle.tc_treedb.proofs.Told.{head_there, told_is}
use Rattle.tc_treedb.proofs.engine.TreeEngineStorage.inform.Goals as goal

pub read_head-requires : goal.read_head-requires
read_head-requires g c = record { sound = c.requires.sound; head = λ t. let h = c.requires.settled t in head_there c.args.self.now (g.S.Space.now c.args.space.now) h.0 h.1 h.2 }

pub add_lines-requires : goal.add_lines-requires
add_lines-requires g c = (c.in_ok-read.ensures.valid c.in-Some.head c.in-Some.is).powers.1

pub returns-in_err-read-clause-reads : goal.returns-in_err-read-clause-reads
returns-in_err-read-clause-reads g c = only_reads_up g.S.Space _ _ _ c.read_head.ensures.reads

pub returns-in_default-clause-reads : goal.returns-in_default-clause-reads
returns-in_default-clause-reads g c = only_reads_up g.S.Space _ _ _ c.read_head.ensures.reads

pub returns-in_err-add_lines-clause-reads : goal.returns-in_err-add_lines-clause-reads
returns-in_err-add_lines-clause-reads g c = only_reads_up g.S.Space _ _ _ c.read_head.ensures.reads

pub returns-clause-reads : goal.returns-clause-reads
returns-clause-reads g c = only_reads_up g.S.Space _ _ _ c.read_head.ensures.reads

pub returns-clause-told : goal.returns-clause-told
returns-clause-told g c = λ t. let h = c.requires.settled t in told_is c.args.self.now (g.S.Space.now c.args.space.now) h.0 c.args.into.now c.add_lines.new.into c.in-Some.head c.in_ok-read.read c.height.result h.1 h.2 c.height.ensures c.in-Some.is (c.in_ok-read.ensures.head t) c.in_ok-add_lines.ensures.added
