use Rattle.std.proofs.Common.{◌∙◌, sym, ap, length}
use Rattle.std.specs.Prelude.{◌||◌, nat_le}
use Rattle.std.proofs.lemmas.Bool.{and_parts}
use Rattle.tc_model.specs.Texts.{tokens}
use Rattle.td_plan.specs.Choices.{asks_all, asks_some, serves}
use Rattle.td_plan.proofs.Covering.{number_covers}
use Rattle.td_plan.proofs.span.span_of.Goals as goal

pub values_of-requires : goal.values_of-requires
values_of-requires c = sym (ap (λ k. serves k c.args.operator c.args.e.now) c.in-Lexical.is) ∙ c.requires

pub numbers_of-requires : goal.numbers_of-requires
numbers_of-requires c = sym (ap (λ k. serves k c.args.operator c.args.e.now) c.in-Decimal.is) ∙ c.requires

pub tokens_of-requires : goal.tokens_of-requires
tokens_of-requires c =
    (and_parts (asks_all c.args.operator || asks_some c.args.operator) (nat_le 1 (length (tokens c.args.e.now))) (sym (ap (λ k. serves k c.args.operator c.args.e.now) c.in-Token.is) ∙ c.requires)).0

pub returns-in-Decimal : goal.returns-in-Decimal
returns-in-Decimal c = rw c.in-Decimal.is (number_covers c.numbers_of.result c.args.operator c.args.e.now c.numbers_of.ensures)

pub returns-in-Token : goal.returns-in-Token
returns-in-Token c = rw c.in-Token.is (c.tokens_of.ensures c.args.e.now)

pub returns-in-Lexical : goal.returns-in-Lexical
returns-in-Lexical c = rw c.in-Lexical.is c.values_of.ensures
