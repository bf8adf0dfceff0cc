use Rattle.std.proofs.Common.{◌≡◌, ◌∙◌, ℕ, List, refl, ap}
use Rattle.tc_base.specs.Decimal.{decimal, nine, fraction, behind_digits}
use Rattle.tc_base.proofs.Decimals.{behind_is}
use Rattle.tc_base.proofs.decimal.size_of_number.Goals as goal

pub returns-clause-value : goal.returns-clause-value
returns-clause-value c =
    let part : c.behind_point-part.result ≡ decimal (nine (fraction (behind_digits c.args.text.now))) =
    c.behind_point-part.ensures.value ∙ ap (λ (l : List ℕ). decimal (nine (fraction l))) (behind_is c.args.text.now c.digit_run-run.result c.digit_run-run.ensures.value) in
    rw (c.from.ensures, c.from-2.ensures, c.whole_part-whole.ensures.value, part) refl
