use Rattle.std.proofs.Common.{◌∙◌, sym, ap}
use Rattle.std.specs.List.{list_all}
use Rattle.tc_model.specs.Texts.{is_among, tokens}
use Rattle.td_query.proofs.Steps.{all_goes_on, all_lost}
use Rattle.td_query.proofs.tokens.all_among.Goals as goal

pub loop-token-preserved : goal.loop-token-preserved
loop-token-preserved c =
    c.loop-token.invariant ∙ all_goes_on (λ t. is_among t (tokens c.args.among.now)) _ _ c.in-Some.token.now c.in-Some.ensures.0 (sym c.is_token.ensures ∙ c.if-not-is_token.false)

pub returns-then-not-is_token : goal.returns-then-not-is_token
returns-then-not-is_token c =
    sym (c.loop-token.invariant ∙ all_lost (λ t. is_among t (tokens c.args.among.now)) _ _ c.in-Some.token.now c.in-Some.ensures.0 (sym c.is_token.ensures ∙ c.if-not-is_token.true))

pub returns : goal.returns
returns c = sym (c.loop-token.invariant ∙ ap (list_all (λ t. is_among t (tokens c.args.among.now))) c.in_default.ensures)
