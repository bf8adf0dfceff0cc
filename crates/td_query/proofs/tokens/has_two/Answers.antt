use Rattle.std.proofs.Common.{◌∙◌, List, ℕ, length, sym, ap}
use Rattle.std.specs.Prelude.{nat_le}
use Rattle.td_query.proofs.Steps.{one_more}
use Rattle.td_query.proofs.tokens.has_two.Goals as goal

pub returns-in_default : goal.returns-in_default
returns-in_default c = ap (λ (ts : List (List ℕ)). nat_le 2 (length ts)) (sym c.in_default.ensures)

pub returns : goal.returns
returns c = c.has_token.ensures ∙ one_more _ _ _ c.in-Some.ensures.0
