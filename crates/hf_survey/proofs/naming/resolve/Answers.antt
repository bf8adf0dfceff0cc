use Rattle.std.proofs.Common.{⊎_elim, arith}
use Rattle.hf_survey.proofs.Halving.{found_spot}
use Rattle.hf_survey.proofs.naming.resolve.Goals as goal

pub returns-in-Some-clause-some : goal.returns-in-Some-clause-some
returns-in-Some-clause-some c = let f = c.in-Some.ensures.found in found_spot c.args.facts.now c.in-Some.i c.args.place f.0 f.1 f.2

pub returns-in-None-clause-none : goal.returns-in-None-clause-none
returns-in-None-clause-none c = λ rises names. ⊎_elim (λ z. c.if-place-eq0.false z) (λ w. c.in-None.ensures.none rises w) names

pub overflow_add-result : goal.overflow_add-result
overflow_add-result c = omega (arith, c.in-Some.ensures.low)
