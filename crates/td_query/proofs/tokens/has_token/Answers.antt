use Rattle.std.proofs.Common.{List, ℕ, length, sym, ap, arith}
use Rattle.std.specs.Prelude.{nat_le}
use Rattle.std.proofs.lemmas.Bool.{le-leb}
use Rattle.td_query.proofs.tokens.has_token.Goals as goal

pub returns-in_default : goal.returns-in_default
returns-in_default c = ap (λ (ts : List (List ℕ)). nat_le 1 (length ts)) (sym c.in_default.ensures)

pub returns : goal.returns
returns c = sym (le-leb 1 _ (omega (arith, ap length c.in-Some.ensures.0)))
