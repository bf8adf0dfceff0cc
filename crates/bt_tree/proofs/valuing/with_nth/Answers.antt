use Rattle.std.proofs.Common.{arith}
use Rattle.bt_tree.proofs.valuing.with_nth.Goals as goal

pub with_value_at-requires-clause-there : goal.with_value_at-requires-clause-there
with_value_at-requires-clause-there c =
    λ x at. omega (arith, c.count-many.ensures x at, c.if-place-many.false)

pub with_value_at-requires-clause-others : goal.with_value_at-requires-clause-others
with_value_at-requires-clause-others c =
    λ none x at. omega (arith, c.count-many.ensures x at, c.if-place-many.false, c.requires none)
