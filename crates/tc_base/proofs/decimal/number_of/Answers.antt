use Rattle.std.proofs.Common.{◌≡◌, ◌∙◌, ℕ, ◌-◌, ◌<◌, List, length, take, drop, sym, ap, arith, Bor}
use Rattle.std.proofs.lemmas.Bool.{eqb-true, eqb-false}
use Rattle.std.proofs.lemmas.List.{take_rest}
use Rattle.tc_base.specs.Decimal.{magnitude}
use Rattle.tc_base.proofs.Decimals.{signed_none, signed_minus, signed_plus, signed_plain, text_is, as_positive, as_negative}
use Rattle.tc_base.proofs.decimal.number_of.Goals as goal
use Rattle.tc_base.proofs.decimal.number_of.Goals.{then-first-eq43, else-first-eq43}

pub returns-then-is_empty : goal.returns-then-is_empty
returns-then-is_empty c =
    let body : List ℕ = c.behind_blanks-body.result.now in
    let none : length body ≡ 0 = eqb-true (length body) 0 (sym c.is_empty.ensures ∙ c.if-is_empty.true) in
    sym (text_is c.args.text.now body c.behind_blanks-body.ensures ∙ signed_none body none)

pub returns-then-first-eq45 : goal.returns-then-first-eq45
returns-then-first-eq45 c =
    let body : List ℕ = c.behind_blanks-body.result.now in
    let some : 0 < length body = let ne = eqb-false (length body) 0 (sym c.is_empty.ensures ∙ c.if-is_empty.false) in omega arith in
    as_negative c.size_of_number.result (magnitude (drop 1 body)) c.size_of_number.ensures.most (c.size_of_number.ensures.value ∙ ap magnitude (take_rest body 1))
    ∙ sym (text_is c.args.text.now body c.behind_blanks-body.ensures ∙ signed_minus body some c.if-first-eq45.true)

pub returns : goal.returns
returns c =
    let body : List ℕ = c.behind_blanks-body.result.now in
    let some : 0 < length body = let ne = eqb-false (length body) 0 (sym c.is_empty.ensures ∙ c.if-is_empty.false) in omega arith in
    let text = text_is c.args.text.now body c.behind_blanks-body.ensures in
    elim c.if-first-eq43.branch [
      | then-first-eq43 w ↦
          let rest : c.if-first-eq43.rest.now ≡ take (length body - 1) (drop 1 body) = ap (λ (r : Bor (List ℕ)). r.now) w.rest-is in
          as_positive c.size_of_number-2.result (magnitude (drop 1 body)) c.size_of_number-2.ensures.most (c.size_of_number-2.ensures.value ∙ ap magnitude (rest ∙ take_rest body 1))
          ∙ sym (text ∙ signed_plus body some w.if-first-eq43.true)
      | else-first-eq43 w ↦
          let rest : c.if-first-eq43.rest.now ≡ body = ap (λ (r : Bor (List ℕ)). r.now) w.rest-is in
          as_positive c.size_of_number-2.result (magnitude body) c.size_of_number-2.ensures.most (c.size_of_number-2.ensures.value ∙ ap magnitude rest)
          ∙ sym (text ∙ signed_plain body some c.if-first-eq45.false w.if-first-eq43.false)
    ]
