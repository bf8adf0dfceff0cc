use mir.Syntax.{w128}
use mir.Val.{of_z, to_z}
use Rattle.std.proofs.Common.{◌≡◌, ◌∙◌, ◌^◌, ℤ, rules, sym, subst}
use Rattle.std.specs.Prelude.{◌≤ℤ◌, pos}
use Rattle.std.proofs.Math.IntN.{neg_ℤ}
use Rattle.td_plan.proofs.Bounds.{bounded}
use Rattle.td_plan.proofs.span.bounded.Goals as goal

pub returns-clause-low : goal.returns-clause-low
returns-clause-low c =
    let same : to_z w128 (of_z w128 c.number_of.result) ≡ c.number_of.result = search rules in
    subst (λ (m : ℤ). neg_ℤ (pos (10 ^ 27)) ≤ℤ m) (sym (same ∙ c.number_of.ensures)) (bounded c.args.text.now).0

pub returns-clause-high : goal.returns-clause-high
returns-clause-high c =
    let same : to_z w128 (of_z w128 c.number_of.result) ≡ c.number_of.result = search rules in
    subst (λ (m : ℤ). m ≤ℤ pos (10 ^ 27)) (sym (same ∙ c.number_of.ensures)) (bounded c.args.text.now).1
