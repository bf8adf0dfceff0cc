use Rattle.std.proofs.Common.{◌≡◌, ◌∙◌, ap, arith, ℕ}
use Rattle.bt_slots.specs.Lying.{behind_values}
use Rattle.bt_slots.proofs.Spans.{whole_ends, behind_none, behind_step, behind_next, ends_next, ends_short, span_is, value_shorter}
use Rattle.bt_slots.proofs.lying.span_of.Goals as goal

pub loop-i-init : goal.loop-i-init
loop-i-init c = record { at = behind_none c.args.further.now; ends = whole_ends c.args.further.now }

pub loop-i-preserved : goal.loop-i-preserved
loop-i-preserved c = record {
  at = behind_step c.loop-i.i _ c.loop-i.rest.now _ _ c.loop-i.invariant.at c.next_value.ensures;
  ends = ends_next _ c.loop-i.rest.now _ _ c.loop-i.invariant.ends c.next_value.ensures;
}

pub overflow_sub-result-2 : goal.overflow_sub-result-2
overflow_sub-result-2 c = omega (arith, ends_short (ends_next _ c.loop-i.rest.now _ _ c.loop-i.invariant.ends c.next_value-2.ensures))

pub returns-clause-span : goal.returns-clause-span
returns-clause-span c =
    let q = ends_next _ c.loop-i.rest.now _ _ c.loop-i.invariant.ends c.next_value-2.ensures in
    let e : c.loop-i.i ≡ c.args.n = omega (arith, c.loop-i-test.false, c.loop-i.auto.i-end) in
    let at : c.loop-i.rest.now ≡ behind_values c.args.n c.args.further.now = c.loop-i.invariant.at ∙ ap (λ (k : ℕ). behind_values k c.args.further.now) e in
    span_is c.args.n c.args.further.now c.loop-i.rest.now _ at (behind_next c.args.n _ c.loop-i.rest.now _ _ at c.next_value-2.ensures) c.loop-i.invariant.ends q

pub returns-clause-order : goal.returns-clause-order
returns-clause-order c =
    let q = ends_next _ c.loop-i.rest.now _ _ c.loop-i.invariant.ends c.next_value-2.ensures in
    omega (arith, ends_short c.loop-i.invariant.ends, ends_short q, ends_short (value_shorter c.loop-i.rest.now _ _ c.next_value-2.ensures))
