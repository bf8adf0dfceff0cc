use Rattle.bt_ways.proofs.Parting.{leaf_changes}
use Rattle.bt_ways.proofs.laws.leaf_changes.Goals as goal

pub returns : goal.returns
returns c = leaf_changes
