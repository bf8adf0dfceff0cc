use Rattle.bt_ways.proofs.Removing.{root_is_alone}
use Rattle.bt_ways.proofs.removals.root_is_alone.Goals as goal

pub returns : goal.returns
returns c = root_is_alone
