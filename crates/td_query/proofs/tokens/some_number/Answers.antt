use Rattle.std.proofs.Common.{◌∙◌, sym, ap}
use Rattle.std.specs.List.{list_any}
use Rattle.tc_base.specs.Decimal.{text_number}
use Rattle.tc_model.specs.Operators.{same_number}
use Rattle.td_query.proofs.Steps.{any_goes_on, any_found}
use Rattle.td_query.proofs.tokens.some_number.Goals as goal

pub loop-token-preserved : goal.loop-token-preserved
loop-token-preserved c =
    c.loop-token.invariant ∙ any_goes_on (λ t. same_number (text_number c.args.other.now) (text_number t)) _ _ c.in-Some.token.now c.in-Some.ensures.0 (sym c.same_number.ensures ∙ c.if-same_number.false)

pub returns-then-same_number : goal.returns-then-same_number
returns-then-same_number c =
    sym (c.loop-token.invariant ∙ any_found (λ t. same_number (text_number c.args.other.now) (text_number t)) _ _ c.in-Some.token.now c.in-Some.ensures.0 (sym c.same_number.ensures ∙ c.if-same_number.true))

pub returns : goal.returns
returns c = sym (c.loop-token.invariant ∙ ap (list_any (λ t. same_number (text_number c.args.other.now) (text_number t))) c.in_default.ensures)
