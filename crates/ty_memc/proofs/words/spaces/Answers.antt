use Rattle.std.proofs.Common.{refl, arith}
use Rattle.std.proofs.lemmas.Bool.{ne_eqb}
use Rattle.ty_memc.specs.Words.{is_space}
use Rattle.ty_memc.proofs.Runs.{run_stops, run_ends}
use Rattle.ty_memc.proofs.words.spaces.Goals as goal

pub returns-then-line-i-ne32-clause-value : goal.returns-then-line-i-ne32-clause-value
returns-then-line-i-ne32-clause-value c = run_stops is_space c.args.line.now c.loop-i.i c.loop-i-test.true c.loop-i.invariant (ne_eqb _ 32 c.if-line-i-ne32.true)

pub returns-clause-value : goal.returns-clause-value
returns-clause-value c = run_ends is_space c.args.line.now _ refl (λ k h. c.loop-i.invariant k (omega (arith, h)))
