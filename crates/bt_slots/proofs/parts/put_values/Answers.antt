use Rattle.std.proofs.Common.{ℕ, List, ◌∙◌, ap, arith, ◌++◌, ◌∷◌, []}
use Rattle.bt_slots.specs.Reads.{cut}
use Rattle.bt_slots.proofs.Pieces.{value_put, values_end}
use Rattle.bt_slots.proofs.parts.put_values.Goals as goal

pub loop-i-preserved : goal.loop-i-preserved
loop-i-preserved c = record {
  all = value_put c.loop-i.values _ c.loop-i.rest.now c.cut.result.0.now c.cut.result.1.now _ c.args.n c.loop-i.i (omega (arith, c.loop-i-test.true))
      (c.in_ok-push.ensures.ok ∙ ap (λ (v : List ℕ). c.loop-i.values ++ v ∷ []) c.in_ok-from_slice.ensures) ((λ i. (c.cut.ensures.0 i, c.cut.ensures.1 i)) ∙ ap cut c.number-size.ensures) c.loop-i.invariant.all;
}

pub returns : goal.returns
returns c = values_end c.loop-i.values c.loop-i.rest.now _ c.args.n c.loop-i.i (omega (arith, c.loop-i-test.false)) c.loop-i.invariant.all
