use Rattle.std.proofs.Common.{◌≡◌, ◌↔◌, List, ℕ, true, sym, ap, subst}
use Rattle.tc_base.specs.Decimal.{text_number}
use Rattle.tc_model.specs.Operators.{is_between}
use Rattle.td_plan.specs.Spans.{IsFrom}
use Rattle.td_plan.proofs.Comparing.{nothing}
use Rattle.td_plan.proofs.span.between.Goals as goal

pub returns-in_default : goal.returns-in_default
returns-in_default c = λ value. nothing (text_number value) _ (ap (λ ts. is_between (text_number value) ts) c.in_default.ensures)

pub returns : goal.returns
returns c = λ value. subst (λ (ts : List (List ℕ)). IsFrom c.beside.result (text_number value) ↔ (is_between (text_number value) ts ≡ true)) (sym c.in-Some.ensures.0) (c.beside.ensures value)
