use Rattle.std.proofs.Common.{◌∙◌, ℕ, Option, ap, length, sym}
use Rattle.std.specs.Prelude.{is_some, nat_le, option_and_then}
use Rattle.tc_model.specs.Rows.{Row}
use Rattle.tc_table.specs.Tables.{row_allowed}
use Rattle.tc_tabledb.proofs.Rowed.{text_fits}
use Rattle.tc_tabledb.proofs.storing.is_stored.Goals as goal

pub returns-in_default : goal.returns-in_default
returns-in_default c = ap (λ (o : Option Row). is_some (option_and_then row_allowed o)) (sym c.in_default.is ∙ c.in_ok-row.ensures)

pub returns : goal.returns
returns c = ap (λ (n : ℕ). nat_le n 16777216) (c.len.ensures ∙ ap length c.in_ok-text.ensures) ∙ text_fits c.args.text.now c.in_ok-row.field-0 c.in-Some.row c.in_ok-row.ensures c.in-Some.is
