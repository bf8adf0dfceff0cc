use Rattle.std.proofs.Common.{◌∙◌, inl, inr, sym}
use Rattle.tc_base.specs.Lists.{pair}
use Rattle.td_row.proofs.Columns.{with_new}
use Rattle.td_row.proofs.row.Row.add.Goals as goal

pub returns-clause-added : goal.returns-clause-added
returns-clause-added c = c.in_ok-put.ensures.set ∙ with_new c.args.self.now (pair c.args.name.now c.args.value.now) (sym c.has.ensures ∙ c.if-has.false)

pub returns-clause-column : goal.returns-clause-column
returns-clause-column c = (sym c.is_column.ensures ∙ c.if-not-is_column.false, sym c.has.ensures ∙ c.if-has.false)

pub returns-then-not-is_column-clause-bad : goal.returns-then-not-is_column-clause-bad
returns-then-not-is_column-clause-bad c = λ _. inl (sym c.is_column.ensures ∙ c.if-not-is_column.true)

pub returns-then-has-clause-bad : goal.returns-then-has-clause-bad
returns-then-has-clause-bad c = λ _. inr (sym c.has.ensures ∙ c.if-has.true)
