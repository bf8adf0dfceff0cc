use Rattle.tc_base.proofs.Parts.{part_stops, part_whole}
use Rattle.tc_base.proofs.order.value_part.Goals as goal

pub returns-then-b-eq0 : goal.returns-then-b-eq0
returns-then-b-eq0 c = part_stops c.args.key.now c.loop-i.i c.loop-i-test.true c.loop-i.invariant c.if-b-eq0.true

pub returns : goal.returns
returns c = part_whole c.args.key.now c.loop-i.i c.loop-i-test.false c.loop-i.auto.i-end c.loop-i.invariant
