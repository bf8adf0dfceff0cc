use Rattle.std.proofs.Common.{◌∙◌, sym}
use Rattle.td_plan.proofs.Following.{all_needed, some_needed}
use Rattle.td_plan.proofs.span.tokens_of.Goals as goal

pub returns-then-asks_all : goal.returns-then-asks_all
returns-then-asks_all c = λ e. (sym c.asks_all.ensures ∙ c.if-asks_all.true, λ value met. all_needed c.args.operator value e (sym c.asks_all.ensures ∙ c.if-asks_all.true) met)

pub returns : goal.returns
returns c = λ e. (sym c.asks_all.ensures ∙ c.if-asks_all.false, λ value met. some_needed c.args.operator value e c.requires (sym c.asks_all.ensures ∙ c.if-asks_all.false) met)
