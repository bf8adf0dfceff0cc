use Rattle.std.proofs.Common.{ap, arith, length, List, ℕ, length-append, ◌∷◌, [], ◌+◌, ◌%◌, ◌/◌}
use Rattle.std.specs.Fmt.{decimal}
use Rattle.std.proofs.lemmas.Fmt.{decimal_step, decimal_digit, length-decimal-le}
use Rattle.tc_fixed.proofs.tally.digits.Goals as goal

pub loop-rest-init : goal.loop-rest-init
loop-rest-init c = record { sum = omega arith; few = length-decimal-le 20 c.args.n (omega arith) (omega arith) (omega arith) }

pub loop-rest-preserved : goal.loop-rest-preserved
loop-rest-preserved c =
    let n = c.loop-rest.rest in
    let step = ap (λ (l : List ℕ). length l) (decimal_step n (omega (arith, c.loop-rest-test.true)) (omega arith)) in
    record { sum = omega (arith, c.loop-rest.invariant.sum, step, length-append (decimal (n / 10)) ((48 + n % 10) ∷ [])); few = c.loop-rest.invariant.few }

pub returns-clause-value : goal.returns-clause-value
returns-clause-value c =
    let one = ap (λ (l : List ℕ). length l) (decimal_digit c.loop-rest.rest (omega (arith, c.loop-rest-test.false))) in
    omega (arith, c.loop-rest.invariant.sum, one)

pub returns-clause-few : goal.returns-clause-few
returns-clause-few c =
    let one = ap (λ (l : List ℕ). length l) (decimal_digit c.loop-rest.rest (omega (arith, c.loop-rest-test.false))) in
    omega (arith, c.loop-rest.invariant.sum, c.loop-rest.invariant.few, one)
