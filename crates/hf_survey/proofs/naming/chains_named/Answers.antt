use Rattle.std.proofs.Common.{◌∙◌, ⊎_elim, arith, sym, ap, subst}
use Rattle.std.specs.Prelude.{slice_get}
use Rattle.hf_survey.specs.declared.facts.Fact.{Fact}
use Rattle.hf_survey.specs.Facts.{HasNamed}
use Rattle.hf_survey.proofs.Halving.{below_or}
use Rattle.hf_survey.proofs.Lists.{same_item, get_low}
use Rattle.hf_survey.proofs.naming.chains_named.Goals as goal

pub loop-i-init : goal.loop-i-init
loop-i-init c = λ i x low at. absurd (omega (arith, low))

pub loop-i-preserved : goal.loop-i-preserved
loop-i-preserved c = λ i x low at. ⊎_elim (λ less. c.loop-i.invariant i x less at)
    (λ same. let s = same_item (slice_get c.args.facts.now i) x c.at.result.now at (ap (slice_get c.args.facts.now) same ∙ c.at.ensures) in
    subst (λ (z : Fact). HasNamed c.args.facts.now z) (sym s) (c.has_named.ensures.yes c.if-not-has_named.false))
    (below_or c.loop-i.i i low)

pub returns-then-not-has_named-clause-no : goal.returns-then-not-has_named-clause-no
returns-then-not-has_named-clause-no c = λ is rises. (c.loop-i.i, c.at.result.now, c.at.ensures, c.has_named.ensures.no c.if-not-has_named.true rises)

pub returns-clause-yes : goal.returns-clause-yes
returns-clause-yes c = λ is i x at. c.loop-i.invariant i x (let l = get_low c.args.facts.now i x at in omega (arith, l)) at
