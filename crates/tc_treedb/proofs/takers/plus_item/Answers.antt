use Rattle.std.proofs.Common.{length, refl, arith}
use Rattle.tc_treedb.proofs.Takings.{counted_end, counted_first, counted_more}
use Rattle.tc_treedb.proofs.takers.plus_item.Goals as goal

pub loop-i-init : goal.loop-i-init
loop-i-init c = record {
  within = omega arith;
  so_far = counted_first c.args.item.now.key.now c.args.item.now.first.now c.args.item.now.further.now (length c.args.item.now.key.now) (length c.args.item.now.first.now) c.args.bytes c.plus-total.result refl refl c.plus-total.ensures;
}

pub loop-i-preserved : goal.loop-i-preserved
loop-i-preserved c = record {
  within = omega (arith, c.loop-i-test.true);
  so_far = counted_more c.args.item.now.key.now c.args.item.now.first.now c.args.item.now.further.now c.loop-i.i c.loop-i.rest.now c.next_value.result.0.now c.next_value.result.1.now (length c.args.item.now.key.now) (length c.next_value.result.0.now) c.args.bytes c.loop-i.total
      c.plus-total-in-loop-i.result c.loop-i.invariant.so_far c.next_value.ensures refl refl c.plus-total-in-loop-i.ensures;
}

pub returns : goal.returns
returns c = counted_end c.args.item.now.key.now c.args.item.now.first.now c.args.item.now.further.now c.loop-i.i c.args.item.now.more c.loop-i.rest.now c.args.bytes c.loop-i.total c.loop-i.invariant.within (omega (arith, c.loop-i-test.false)) c.loop-i.invariant.so_far
