use Rattle.bt_ways.proofs.Removing.{node_goes}
use Rattle.bt_ways.proofs.removals.node_goes.Goals as goal

pub returns : goal.returns
returns c = node_goes
