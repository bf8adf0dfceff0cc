use Rattle.bt_rows.proofs.Standing.{rows_rules}
use Rattle.bt_rows.proofs.laws.rows_give_rules.Goals as goal

pub returns : goal.returns
returns c = rows_rules
