use Rattle.std.proofs.Common.{arith}
use Rattle.ty_memc.proofs.Feeds.{feed_here, feed_behind}
use Rattle.ty_memc.proofs.ends.find_feed.Goals as goal

pub loop-i-preserved : goal.loop-i-preserved
loop-i-preserved c = feed_behind c.args.bytes.now c.loop-i.i (omega (arith, c.loop-i-test.true)) c.loop-i.invariant c.if-bytes-i-eq10.false

pub returns-then-bytes-i-eq10 : goal.returns-then-bytes-i-eq10
returns-then-bytes-i-eq10 c = (feed_here c.args.bytes.now c.loop-i.i (omega (arith, c.loop-i-test.true)) c.loop-i.invariant c.if-bytes-i-eq10.true, omega (arith, c.loop-i-test.true))
