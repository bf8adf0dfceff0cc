use Rattle.bt_rows.proofs.Held.{records_give_pairs}
use Rattle.bt_rows.proofs.laws.records_give_pairs.Goals as goal

pub returns : goal.returns
returns c = records_give_pairs
