use Rattle.std.proofs.Common.{arith, sym}
use Rattle.ud_log.specs.Log.{magic}
use Rattle.ud_log.proofs.Heading.{agrees_each, agrees_not}
use Rattle.ud_log.proofs.tests.begins_well.Goals as goal

pub returns-then-bytes-i : goal.returns-then-bytes-i
returns-then-bytes-i c = sym (agrees_not magic c.args.bytes.now c.loop-i.i c.loop-i-test.true c.if-i-bytes.true c.if-bytes-i.true)

pub returns : goal.returns
returns c = sym (agrees_each magic c.args.bytes.now (λ k low high. c.loop-i.invariant k (omega arith) high))
