use Rattle.std.proofs.Common.{◌≡◌, ◌∙◌, arith}
use Rattle.bt_slots.proofs.Marks.{dropped_ends, stands_end}
use Rattle.bt_slots.proofs.Spans.{behind_step, ends_next, ends_short}
use Rattle.bt_slots.proofs.marking.offset_on.Goals as goal

pub loop-i-init : goal.loop-i-init
loop-i-init c = record {
  at = c.rest_from-rest.ensures.is ∙ c.requires.at.begins;
  ends = dropped_ends c.args.further.now c.rest_from-rest.result.now c.args.offset c.rest_from-rest.ensures.is;
}

pub loop-i-preserved : goal.loop-i-preserved
loop-i-preserved c = record {
  at = behind_step c.loop-i.i _ c.loop-i.rest.now _ _ c.loop-i.invariant.at c.next_value.ensures;
  ends = ends_next _ c.loop-i.rest.now _ _ c.loop-i.invariant.ends c.next_value.ensures;
}

pub overflow_sub-result : goal.overflow_sub-result
overflow_sub-result c = omega (arith, ends_short c.loop-i.invariant.ends)

pub returns : goal.returns
returns c =
    let e : c.loop-i.i ≡ c.args.n = omega (arith, c.loop-i-test.false, c.loop-i.auto.i-end) in
    stands_end c.args.n c.loop-i.i c.args.further.now c.loop-i.rest.now e c.loop-i.invariant.at c.loop-i.invariant.ends
