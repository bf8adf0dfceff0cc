use Rattle.std.proofs.Common.{ap}
use Rattle.std.specs.Prelude.{ℕ, List}
use Rattle.bt_rows.specs.Heads.{head_of}
use Rattle.tc_tabledb.proofs.opening.order_in.Goals as goal

pub returns : goal.returns
returns g c = ap (λ (x : List ℕ). (head_of x).order) c.opaque-region.ensures
