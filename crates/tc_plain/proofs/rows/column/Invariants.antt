use Rattle.std.proofs.Common.{◌≡◌, drop}
use Rattle.tc_model.specs.Rows.{column}
use Rattle.tc_plain.proofs.rows.column.Given as goal

abbrev pub invariant-loop-pair : goal.invariant-loop-pair
invariant-loop-pair l = column l.row l.name ≡ column (drop l.pair-index l.row) l.name
