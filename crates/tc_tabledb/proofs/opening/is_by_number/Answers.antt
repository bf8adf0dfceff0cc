use Rattle.std.proofs.Common.{ℕ, ◌==◌, ap}
use Rattle.tc_tabledb.proofs.opening.is_by_number.Goals as goal

pub returns : goal.returns
returns g c = ap (λ (n : ℕ). n == 1) c.order_in.ensures
