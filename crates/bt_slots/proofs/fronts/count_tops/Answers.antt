use Rattle.std.proofs.Common.{sym, arith}
use Rattle.bt_slots.proofs.Numbers.{tops_more, tops_end, tops_past}
use Rattle.bt_slots.proofs.fronts.count_tops.Goals as goal

pub loop-i-preserved : goal.loop-i-preserved
loop-i-preserved c = tops_more c.args.bytes.now c.loop-i.i c.loop-i.invariant c.loop-i-test.true (omega arith)

pub returns-then-bytes-i-lt128-clause-count : goal.returns-then-bytes-i-lt128-clause-count
returns-then-bytes-i-lt128-clause-count c = sym (tops_end c.args.bytes.now c.loop-i.i c.loop-i.invariant c.loop-i-test.true (omega arith))

pub returns-clause-count : goal.returns-clause-count
returns-clause-count c = omega (arith, tops_past c.args.bytes.now c.loop-i.i c.loop-i.invariant (omega arith))
