use mir.Syntax.{w128}
use mir.Val.{of_z, to_z}
use Rattle.std.proofs.Common.{◌≡◌, ◌∙◌, rules, arith}
use Rattle.std.specs.Prelude.{nat_le}
use Rattle.std.proofs.lemmas.Bool.{and_parts, leb-true}
use Rattle.td_plan.proofs.Covering.{numbered}
use Rattle.td_plan.proofs.span.numbers_of.Goals as goal

pub returns-then-operator-eq13 : goal.returns-then-operator-eq13
returns-then-operator-eq13 c = λ value. numbered c.args.operator 13 c.args.e.now value _ c.if-operator-eq13.true (c.between.ensures value)

pub compared-requires-clause-from : goal.compared-requires-clause-from
compared-requires-clause-from c = leb-true 8 c.args.operator (and_parts (nat_le 8 c.args.operator) (nat_le c.args.operator 13) c.requires).0

pub compared-requires-clause-to : goal.compared-requires-clause-to
compared-requires-clause-to c = omega (arith, c.if-operator-eq13.false, leb-true c.args.operator 13 (and_parts (nat_le 8 c.args.operator) (nat_le c.args.operator 13) c.requires).1)

pub returns : goal.returns
returns c = λ value.
    let same : to_z w128 (of_z w128 c.bounded.result) ≡ c.bounded.result = search rules in
    c.compared.ensures value c.args.e.now (same ∙ c.bounded.ensures.value)
