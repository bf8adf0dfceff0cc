use Rattle.std.proofs.Common.{◌∙◌, sym, ap}
use Rattle.tc_base.specs.Texts.{is_text}
use Rattle.tc_model.specs.Texts.{is_among}
use Rattle.td_query.proofs.Steps.{any_goes_on, any_found}
use Rattle.td_query.proofs.tokens.is_token.Goals as goal

pub loop-token-preserved : goal.loop-token-preserved
loop-token-preserved c = c.loop-token.invariant ∙ any_goes_on (is_text c.args.text.now) _ _ c.in-Some.token.now c.in-Some.ensures.0 (sym c.is_same.ensures ∙ c.if-is_same.false)

pub returns-then-is_same : goal.returns-then-is_same
returns-then-is_same c = sym (c.loop-token.invariant ∙ any_found (is_text c.args.text.now) _ _ c.in-Some.token.now c.in-Some.ensures.0 (sym c.is_same.ensures ∙ c.if-is_same.true))

pub returns : goal.returns
returns c = sym (c.loop-token.invariant ∙ ap (is_among c.args.text.now) c.in_default.ensures)
