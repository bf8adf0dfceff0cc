use Rattle.bt_rows.proofs.Standing.{rules_rows}
use Rattle.bt_rows.proofs.laws.rules_give_rows.Goals as goal

pub returns : goal.returns
returns c = rules_rows
