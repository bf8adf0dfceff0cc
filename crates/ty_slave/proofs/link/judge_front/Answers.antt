use Rattle.std.proofs.Common.{arith, drop}
use Rattle.ty_ulog.specs.Records.{seen}
use Rattle.ty_slave.proofs.Looking.{has_next, looked_on, takes_on}
use Rattle.ty_slave.proofs.link.judge_front.Goals as goal

pub look_record-r-requires : goal.look_record-r-requires
look_record-r-requires c = (c.requires.0, drop c.args.whole c.args.bytes.now, record { is = c.requires.2 })

pub returns-clause-judged : goal.returns-clause-judged
returns-clause-judged c =
    let read = c.look_record-r.ensures in
    looked_on c.judge.result c.args.held c.args.whole c.args.bytes.now read.0 c.requires.0 (seen c.look_record-r.result) c.requires.2 read.1.is c.judge.ensures.judged

pub returns-clause-takes : goal.returns-clause-takes
returns-clause-takes c = let read = c.look_record-r.ensures in takes_on c.judge.result c.args.bytes.now read.0 (seen c.look_record-r.result) (λ i. omega (arith, c.type_inv.bytes i)) read.1.is c.judge.ensures.takes

pub returns-clause-wanting : goal.returns-clause-wanting
returns-clause-wanting c = let read = c.look_record-r.ensures in has_next c.judge.result c.args.held c.args.bytes.now read.0 (seen c.look_record-r.result) read.1.is c.judge.ensures.wanting
