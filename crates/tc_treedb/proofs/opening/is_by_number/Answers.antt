use Rattle.std.proofs.Common.{ap}
use Rattle.std.specs.Prelude.{ℕ, List}
use Rattle.bt_rows.specs.Heads.{head_of}
use Rattle.tc_treedb.specs.Holding.{is_decimal}
use Rattle.tc_treedb.proofs.opening.is_by_number.Goals as goal

pub returns : goal.returns
returns g c = ap (λ (r : List ℕ). is_decimal (head_of r).order) c.opaque-region.ensures
