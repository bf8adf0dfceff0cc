use Rattle.std.proofs.Common.{◌+◌, arith}
use Rattle.tc_held.proofs.Narrowed.{take_more}
use Rattle.tc_held.proofs.differing.alike_front.Goals as goal

pub loop-n-preserved : goal.loop-n-preserved
loop-n-preserved c = record {
  most = omega (arith, c.min-size.ensures, c.loop-n.invariant.most);
  same = take_more c.loop-n.n (c.loop-n.n + c.min-size.result) c.args.a.now c.args.b.now (omega arith) c.loop-n.invariant.same (c.are_alike.ensures c.if-not-are_alike.false);
}
