use Rattle.std.proofs.Common.{◌∙◌, sym, ap}
use Rattle.std.specs.List.{list_any}
use Rattle.tc_model.specs.Texts.{is_among, tokens}
use Rattle.td_query.proofs.Steps.{any_goes_on, any_found}
use Rattle.td_query.proofs.tokens.some_among.Goals as goal

pub loop-token-preserved : goal.loop-token-preserved
loop-token-preserved c =
    c.loop-token.invariant ∙ any_goes_on (λ t. is_among t (tokens c.args.among.now)) _ _ c.in-Some.token.now c.in-Some.ensures.0 (sym c.is_token.ensures ∙ c.if-is_token.false)

pub returns-then-is_token : goal.returns-then-is_token
returns-then-is_token c =
    sym (c.loop-token.invariant ∙ any_found (λ t. is_among t (tokens c.args.among.now)) _ _ c.in-Some.token.now c.in-Some.ensures.0 (sym c.is_token.ensures ∙ c.if-is_token.true))

pub returns : goal.returns
returns c = sym (c.loop-token.invariant ∙ ap (list_any (λ t. is_among t (tokens c.args.among.now))) c.in_default.ensures)
