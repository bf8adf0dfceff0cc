use Rattle.bt_check.proofs.Unbroken.{trees_break_no_rule}
use Rattle.bt_check.proofs.laws.trees_break_no_rule.Goals as goal

pub returns : goal.returns
returns c = trees_break_no_rule
