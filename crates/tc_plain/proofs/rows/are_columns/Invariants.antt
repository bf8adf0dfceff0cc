use Rattle.std.proofs.Common.{◌≡◌, drop}
use Rattle.std.specs.List.{list_all}
use Rattle.tc_model.specs.Rows.{is_column}
use Rattle.tc_plain.proofs.rows.are_columns.Given as goal

abbrev pub invariant-loop-pair : goal.invariant-loop-pair
invariant-loop-pair l = list_all is_column l.pairs ≡ list_all is_column (drop l.pair-index l.pairs)
