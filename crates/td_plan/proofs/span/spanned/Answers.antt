use mir.Syntax.{w128}
use mir.Val.{of_z, to_z}
use Rattle.std.proofs.Common.{◌≡◌, ◌∙◌, ◌↔◌, ℤ, rules, true, subst}
use Rattle.tc_base.specs.Decimal.{text_number}
use Rattle.td_plan.specs.Spans.{IsFrom, lies}
use Rattle.td_plan.proofs.span.spanned.Goals as goal

pub returns-then-a-b : goal.returns-then-a-b
returns-then-a-b c = λ v.
    let first : to_z w128 (of_z w128 c.number_of-a.result) ≡ c.number_of-a.result = search rules in
    let second : to_z w128 (of_z w128 c.number_of-b.result) ≡ c.number_of-b.result = search rules in
    subst (λ (m : ℤ). IsFrom c.upwards.result v ↔ (lies v m (text_number c.args.y.now) ≡ true)) (first ∙ c.number_of-a.ensures)
    (subst (λ (n : ℤ). IsFrom c.upwards.result v ↔ (lies v (to_z w128 (of_z w128 c.number_of-a.result)) n ≡ true)) (second ∙ c.number_of-b.ensures) (c.upwards.ensures v))

pub returns : goal.returns
returns c = λ v.
    let first : to_z w128 (of_z w128 c.number_of-a.result) ≡ c.number_of-a.result = search rules in
    let second : to_z w128 (of_z w128 c.number_of-b.result) ≡ c.number_of-b.result = search rules in
    subst (λ (m : ℤ). IsFrom c.downwards.result v ↔ (lies v m (text_number c.args.y.now) ≡ true)) (first ∙ c.number_of-a.ensures)
    (subst (λ (n : ℤ). IsFrom c.downwards.result v ↔ (lies v (to_z w128 (of_z w128 c.number_of-a.result)) n ≡ true)) (second ∙ c.number_of-b.ensures) (c.downwards.ensures v))
