use Rattle.std.proofs.Common.{arith}
use Rattle.td_row.proofs.Written.{first_written, text_written}
use Rattle.td_row.proofs.text.write_text.Goals as goal

pub loop-i-init : goal.loop-i-init
loop-i-init c = first_written c.args.into.now c.write_pair.new.into c.at.result.0.now c.at.result.1.now c.args.row.now c.at.ensures c.in_ok-write_pair.ensures.ok

pub loop-i-preserved : goal.loop-i-preserved
loop-i-preserved c =
    text_written c.args.into.now c.loop-i.into c.push.new.self c.write_pair-in-loop-i.new.into c.at-in-loop-i.result.0.now c.at-in-loop-i.result.1.now c.args.row.now c.loop-i.i (omega (arith, c.loop-i.auto.i)) c.at-in-loop-i.ensures c.loop-i.invariant
    c.in_ok-push.ensures.ok c.in_ok-write_pair-2.ensures.ok
