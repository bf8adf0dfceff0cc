use Rattle.std.proofs.Common.{◌∙◌, ⊎_elim, arith, ap, true, false}
use Rattle.std.specs.Prelude.{slice_get}
use Rattle.hf_survey.proofs.Steps.{get_of}
use Rattle.hf_survey.proofs.Halving.{below_or}
use Rattle.hf_survey.proofs.reaching.all_marked.Goals as goal

pub loop-i-preserved : goal.loop-i-preserved
loop-i-preserved c = λ i low. ⊎_elim (λ less. c.loop-i.invariant i less) (λ same. ap (slice_get c.args.marks.now) same ∙ get_of c.args.marks.now c.loop-i.i true (omega arith) c.if-not-marks-i.false) (below_or c.loop-i.i i low)

pub returns-then-not-marks-i-clause-no : goal.returns-then-not-marks-i-clause-no
returns-then-not-marks-i-clause-no c = λ is. (c.loop-i.i, omega arith, get_of c.args.marks.now c.loop-i.i false (omega arith) c.if-not-marks-i.true)

pub returns-clause-yes : goal.returns-clause-yes
returns-clause-yes c = λ is i low. c.loop-i.invariant i (omega (arith, low))
