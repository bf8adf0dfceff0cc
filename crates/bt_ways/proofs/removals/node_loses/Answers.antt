use Rattle.bt_ways.proofs.Removing.{node_loses}
use Rattle.bt_ways.proofs.removals.node_loses.Goals as goal

pub returns : goal.returns
returns c = node_loses
