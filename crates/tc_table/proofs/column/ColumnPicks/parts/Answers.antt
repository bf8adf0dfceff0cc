use Rattle.std.proofs.Common.{◌∙◌, ap, sym}
use Rattle.tc_model.specs.Rows.{column}
use Rattle.tc_table.specs.Parts.{parts_of_value}
use Rattle.tc_table.proofs.Spelled.{parts_again}
use Rattle.tc_table.proofs.column.ColumnPicks.parts.Goals as goal

pub returns : goal.returns
returns c =
    c.in_ok-found.ensures.parts ∙ (ap (parts_of_value c.args.self.now.kind) c.value_of-value.ensures.value ∙ (ap (λ n. parts_of_value c.args.self.now.kind (column c.in_ok-row.row n)) c.as_slice.ensures ∙ sym (parts_again c.args.self.now.kind c.args.self.now.name c.args.bytes.now c.in_ok-row.row c.in_ok-row.ensures.spells)))
