use Rattle.std.proofs.Common.{refl, ap, eq-eqb, arith, not}
use Rattle.ty_memc.specs.Words.{is_letter}
use Rattle.ty_memc.proofs.Runs.{run_stops, run_ends}
use Rattle.ty_memc.proofs.words.letters.Goals as goal

pub returns-then-line-i-eq32-clause-value : goal.returns-then-line-i-eq32-clause-value
returns-then-line-i-eq32-clause-value c = run_stops is_letter c.args.line.now c.loop-i.i c.loop-i-test.true c.loop-i.invariant (ap not (eq-eqb _ 32 c.if-line-i-eq32.true))

pub returns-clause-value : goal.returns-clause-value
returns-clause-value c = run_ends is_letter c.args.line.now _ refl (λ k h. c.loop-i.invariant k (omega (arith, h)))
