use Rattle.std.proofs.Common.{◌∙◌, sym, ap}
use Rattle.tc_base.specs.Decimal.{text_number}
use Rattle.tc_model.specs.Operators.{is_between}
use Rattle.td_query.proofs.tokens.is_between.Goals as goal

pub returns-in_default : goal.returns-in_default
returns-in_default c = ap (λ ts. is_between (text_number c.args.text.now) ts) (sym c.in_default.ensures)

pub returns : goal.returns
returns c = c.lies_behind.ensures ∙ ap (λ ts. is_between (text_number c.args.text.now) ts) (sym c.in-Some.ensures.0)
