use Rattle.bt_rows.proofs.Ordered.{orders_are_strict}
use Rattle.bt_rows.proofs.laws.orders_are_strict.Goals as goal

pub returns : goal.returns
returns c = orders_are_strict
