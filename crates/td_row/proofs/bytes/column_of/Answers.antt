use Rattle.std.proofs.Common.{◌∙◌, sym, arith}
use Rattle.tc_base.specs.Lists.{pair}
use Rattle.td_row.proofs.Reading.{at_front, none_read, none_fits}
use Rattle.td_row.proofs.bytes.column_of.Goals as goal

pub returns-in_default-clause-none : goal.returns-in_default-clause-none
returns-in_default-clause-none c = none_read c.args.bytes.now _ c.in_default.ensures

pub returns-then-not-is_column-clause-none : goal.returns-then-not-is_column-clause-none
returns-then-not-is_column-clause-none c = none_fits c.args.bytes.now (pair c.in-Ok.name.now c.in-Ok.value.now) c.in-Ok.rest.now c.in-Ok.ensures (sym c.is_column.ensures ∙ c.if-not-is_column.true)

pub returns-clause-found : goal.returns-clause-found
returns-clause-found c =
    at_front c.args.bytes.now (pair c.in-Ok.name.now c.in-Ok.value.now) c.in-Ok.rest.now (λ i. omega (arith, c.type_inv.bytes i)) c.in-Ok.ensures (sym c.is_column.ensures ∙ c.if-not-is_column.false)
