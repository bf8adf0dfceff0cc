use Rattle.std.proofs.Common.{refl, arith}
use Rattle.tc_base.proofs.Decimals.{run_stops, run_ends, is_digit-below, is_digit-above}
use Rattle.tc_base.proofs.decimal.digit_run.Goals as goal
use Rattle.tc_base.proofs.decimal.digit_run.Goals.{then-b-lt48-via-then-b-lt48, then-b-lt48-via-else-b-lt48+then-b-gt57}

pub returns-then-b-lt48-clause-value : goal.returns-then-b-lt48-clause-value
returns-then-b-lt48-clause-value c = elim c.then-b-lt48.branch [
  | then-b-lt48-via-then-b-lt48 w ↦ run_stops c.args.text.now c.loop-i.i c.loop-i-test.true c.loop-i.invariant (is_digit-below _ w.if-b-lt48.true)
  | then-b-lt48-via-else-b-lt48+then-b-gt57 w ↦ run_stops c.args.text.now c.loop-i.i c.loop-i-test.true c.loop-i.invariant (is_digit-above _ w.if-b-gt57.true)
]

pub returns-clause-value : goal.returns-clause-value
returns-clause-value c = run_ends c.args.text.now _ refl (λ k h. c.loop-i.invariant k (omega (arith, h)))
