use Rattle.std.proofs.Common.{arith, ◌∙◌, ap, ◌+◌, ◌-◌, ◌*◌, ◌<◌, ◌^◌, ℕ, get_or, subst, sym}
use Rattle.bt_page.proofs.IdKeys.{number_more, number_fits, few_digits}
use Rattle.bt_page.proofs.keys.hex_number.Goals as goal

pub overflow_mul-n : goal.overflow_mul-n
overflow_mul-n c = omega (arith, c.loop-b.invariant.fits, few_digits (12 - c.loop-b.b-index) c.loop-b.b-index (omega (arith, c.requires, c.loop-b-test.true)))

pub overflow_add-n : goal.overflow_add-n
overflow_add-n c = omega (arith, c.loop-b.invariant.fits, few_digits (12 - c.loop-b.b-index) c.loop-b.b-index (omega (arith, c.requires, c.loop-b-test.true)), c.digit_value.ensures)

pub loop-b-preserved : goal.loop-b-preserved
loop-b-preserved c = record {
  value = ap (λ (d : ℕ). c.loop-b.n * 16 + d) c.digit_value.ensures ∙ number_more c.args.digits.now c.loop-b.b-index c.loop-b.n c.loop-b-test.true c.loop-b.invariant.value;
  fits = subst (λ (d : ℕ). c.loop-b.n * 16 + d < 16 ^ (c.loop-b.b-index + 1)) (sym c.digit_value.ensures) (number_fits c.loop-b.n c.loop-b.b-index (get_or c.args.digits.now c.loop-b.b-index 0) c.loop-b.invariant.fits);
}

pub returns-clause-most : goal.returns-clause-most
returns-clause-most c = omega (arith, c.loop-b.invariant.fits, few_digits (12 - c.loop-b.b-index) c.loop-b.b-index (omega (arith, c.requires, c.loop-b.auto.b-index-end)))
