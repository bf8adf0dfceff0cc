use Rattle.std.proofs.Common.{◌∙◌, sym, subst}
use Rattle.std.specs.FinMap.{get}
use Rattle.bt_check.specs.Collected.{IsJudged}
use Rattle.bt_check.proofs.Collects.{no_page, page_found}
use Rattle.bt_check.proofs.collecting.look.Goals as goal

pub returns-in_default-judge-clause-found : goal.returns-in_default-judge-clause-found
returns-in_default-judge-clause-found g c = λ m i.
    no_page c.args.head.now c.args.index (get m) c.args.key.now c.in-Some-2.bytes c.in-Some.id c.requires.head c.in-Some.ensures.given c.in-Some.ensures.key
    (sym (c.in_ok-bytes.ensures.value m i) ∙ c.in-Some-2.is)
    (subst (λ r. IsJudged c.args.head.now c.in-Some.id c.in-Some-2.bytes r) c.in_default-judge.is c.judge.ensures)

pub returns-clause-found : goal.returns-clause-found
returns-clause-found g c = λ m i. (
  c.in-Some.ensures.given,
  c.in-Some.ensures.key,
  page_found c.args.head.now (get m) c.args.key.now c.in-Some-2.bytes c.in-Some.id c.in-Some-judge.within (sym (c.in_ok-bytes.ensures.value m i) ∙ c.in-Some-2.is) (subst (λ r. IsJudged c.args.head.now c.in-Some.id c.in-Some-2.bytes r) c.in-Some-judge.is c.judge.ensures),
)
