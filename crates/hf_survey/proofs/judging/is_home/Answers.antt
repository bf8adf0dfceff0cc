use Rattle.std.proofs.Common.{◌≡◌, ◌-◌, ◌∙◌, arith, sym, ap}
use Rattle.std.proofs.lemmas.Bool.Decides.{nat_tests}
use Rattle.std.specs.Prelude.{slice_get}
use Rattle.hf_survey.specs.declared.facts.Fact.{Fact}
use Rattle.hf_survey.proofs.Lists.{same_item}
use Rattle.hf_survey.proofs.judging.is_home.Goals as goal

pub returns-then-fact-item : goal.returns-then-fact-item
returns-then-fact-item c = (λ e. absurd cc, λ h. absurd (c.if-fact-item.true (h (c.args.item.now.number - 1) c.at-fact.result.now (omega (arith, c.requires.low.0)) c.at-fact.ensures).0))

pub returns : goal.returns
returns c = (
  λ e i f is at. (
      let j : i ≡ c.args.item.now.number - 1 = omega (arith, is) in
      let s : f ≡ c.at-fact.result.now = same_item (slice_get c.args.facts.now i) f c.at-fact.result.now at (ap (slice_get c.args.facts.now) j ∙ c.at-fact.ensures) in
      (ap (λ (z : Fact). z.bucket) s ∙ c.if-fact-item.false, ap (λ (z : Fact). z.hash) s ∙ (let k : c.at-fact.result.now.hash ≡ c.at-fact.result.now.second = grind (arith, nat_tests) in k) ∙ sym (ap (λ (z : Fact). z.second) s))
      ),
  λ h. (let k = (h (c.args.item.now.number - 1) c.at-fact.result.now (omega (arith, c.requires.low.0)) c.at-fact.ensures).1 in grind (arith, nat_tests)),
)
