use Rattle.bt_ways.proofs.RemovingLeaves.{leaf_goes}
use Rattle.bt_ways.proofs.removals.leaf_goes.Goals as goal

pub returns : goal.returns
returns c = leaf_goes
