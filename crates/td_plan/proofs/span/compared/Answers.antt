use mir.Syntax.{w128}
use mir.Val.{of_z, to_z}
use Rattle.std.proofs.Common.{◌≡◌, ◌∙◌, ◌^◌, rules, true, refl, ap, arith}
use Rattle.std.specs.Prelude.{int_le, int_lt, pos}
use Rattle.std.proofs.Math.IntN.{◌+ℤ◌, ◌-ℤ◌, neg_ℤ}
use Rattle.tc_base.specs.Decimal.{text_number}
use Rattle.tc_model.specs.Operators.{same_number}
use Rattle.td_plan.proofs.Bounds.{bounded}
use Rattle.td_plan.proofs.Comparing.{at_least_is, at_most_is, equal_is, greater_is, less_is, over}
use Rattle.td_plan.proofs.Covering.{numbered}
use Rattle.td_plan.proofs.span.compared.Goals as goal

pub returns-then-operator-eq8 : goal.returns-then-operator-eq8
returns-then-operator-eq8 c = λ value e is.
    let same : to_z w128 (of_z w128 c.args.n) ≡ c.args.n = search rules in
    numbered c.args.operator 8 e value _ c.if-operator-eq8.true
    (over c.exactly.result.low c.exactly.result.high (text_number e) (text_number e) (text_number value) (same_number (text_number value) (text_number e) ≡ true) (c.exactly.ensures.low ∙ (same ∙ is)) (c.exactly.ensures.high ∙ (same ∙ is)) (equal_is (text_number value) (text_number e)))

pub returns-then-operator-eq9 : goal.returns-then-operator-eq9
returns-then-operator-eq9 c = λ value e is.
    let same : to_z w128 (of_z w128 c.args.n) ≡ c.args.n = search rules in
    numbered c.args.operator 9 e value _ c.if-operator-eq9.true
    (over c.above.result.low c.above.result.high (text_number e +ℤ pos 1) (pos (10 ^ 27)) (text_number value) (int_lt (text_number e) (text_number value) ≡ true) (c.above.ensures.low ∙ ap (λ m. m +ℤ pos 1) (same ∙ is)) c.above.ensures.high (greater_is (text_number value) (text_number e) (text_number e +ℤ pos 1) (pos (10 ^ 27)) refl (bounded value).1))

pub returns-then-operator-eq10 : goal.returns-then-operator-eq10
returns-then-operator-eq10 c = λ value e is.
    let same : to_z w128 (of_z w128 c.args.n) ≡ c.args.n = search rules in
    numbered c.args.operator 10 e value _ c.if-operator-eq10.true
    (over c.at_least.result.low c.at_least.result.high (text_number e) (pos (10 ^ 27)) (text_number value) (int_le (text_number e) (text_number value) ≡ true) (c.at_least.ensures.low ∙ (same ∙ is)) c.at_least.ensures.high (at_least_is (text_number value) (text_number e) (pos (10 ^ 27)) (bounded value).1))

pub returns-then-operator-eq11 : goal.returns-then-operator-eq11
returns-then-operator-eq11 c = λ value e is.
    let same : to_z w128 (of_z w128 c.args.n) ≡ c.args.n = search rules in
    numbered c.args.operator 11 e value _ c.if-operator-eq11.true
    (over c.below.result.low c.below.result.high (neg_ℤ (pos (10 ^ 27))) (text_number e -ℤ pos 1) (text_number value) (int_lt (text_number value) (text_number e) ≡ true) c.below.ensures.low (c.below.ensures.high ∙ ap (λ m. m -ℤ pos 1) (same ∙ is)) (less_is (text_number value) (text_number e) (neg_ℤ (pos (10 ^ 27))) (text_number e -ℤ pos 1) refl (bounded value).0))

pub returns : goal.returns
returns c = λ value e is.
    let same : to_z w128 (of_z w128 c.args.n) ≡ c.args.n = search rules in
    let twelve : c.args.operator ≡ 12 = omega (arith, c.requires.from, c.requires.to, c.if-operator-eq8.false, c.if-operator-eq9.false, c.if-operator-eq10.false, c.if-operator-eq11.false) in
    numbered c.args.operator 12 e value _ twelve
    (over c.at_most.result.low c.at_most.result.high (neg_ℤ (pos (10 ^ 27))) (text_number e) (text_number value) (int_le (text_number value) (text_number e) ≡ true) c.at_most.ensures.low (c.at_most.ensures.high ∙ (same ∙ is)) (at_most_is (text_number value) (text_number e) (neg_ℤ (pos (10 ^ 27))) (bounded value).0))
