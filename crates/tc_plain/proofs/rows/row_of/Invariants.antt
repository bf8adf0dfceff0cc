use Rattle.std.proofs.Common.{◌≡◌, drop, []}
use Rattle.std.specs.Prelude.{fold}
use Rattle.tc_model.specs.Rows.{with_column}
use Rattle.tc_plain.proofs.rows.row_of.Given as goal

abbrev pub invariant-loop-pair : goal.invariant-loop-pair
invariant-loop-pair l = fold with_column l.row (drop l.pair-index l.columns) ≡ fold with_column [] l.columns
