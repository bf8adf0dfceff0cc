use Rattle.std.proofs.Common.{arith}
use Rattle.tc_hash.proofs.Sectioned.{zeros_less}
use Rattle.tc_hash.proofs.front.zeros_from.Goals as goal

pub loop-n-preserved : goal.loop-n-preserved
loop-n-preserved c = record { most = omega (arith, c.loop-n.invariant.most); zeros = zeros_less c.loop-n.n _ c.args.bytes.now (omega (arith, c.loop-n-test.true)) c.loop-n.invariant.most c.if-bytes-n-eq0.true c.loop-n.invariant.zeros }
