use Rattle.bt_rows.proofs.Betweens.{order_is_that_of_entries}
use Rattle.bt_rows.proofs.laws.order_is_that_of_entries.Goals as goal

pub returns : goal.returns
returns c = order_is_that_of_entries
