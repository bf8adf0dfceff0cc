use Rattle.std.proofs.Common.{◌≡◌, ◌∙◌, ap, arith, ℕ}
use Rattle.bt_slots.specs.Lying.{behind_values}
use Rattle.bt_slots.proofs.Spans.{behind_none, behind_step}
use Rattle.bt_slots.proofs.bare.behind_further.Goals as goal

pub loop-i-init : goal.loop-i-init
loop-i-init c = behind_none c.args.bytes.now

pub loop-i-preserved : goal.loop-i-preserved
loop-i-preserved c = behind_step c.loop-i.i _ c.loop-i.rest.now _ _ c.loop-i.invariant c.next_value.ensures

pub returns : goal.returns
returns c =
    let e : c.loop-i.i ≡ c.args.n = omega (arith, c.loop-i-test.false, c.loop-i.auto.i-end) in
    c.loop-i.invariant ∙ ap (λ (k : ℕ). behind_values k c.args.bytes.now) e
