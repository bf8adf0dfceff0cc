use Rattle.std.proofs.Common.{◌≡◌, take}
use Rattle.tc_model.specs.Well.{IsRow}
use Rattle.td_row.proofs.row.Row.from_columns.Given as goal

abbrev pub invariant-loop-column : goal.invariant-loop-column
invariant-loop-column l = record { so : l.row ≡ take l.column-index l.columns; is_row : IsRow l.row }
