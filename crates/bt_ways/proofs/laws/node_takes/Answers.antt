use Rattle.bt_ways.proofs.Climbing.{node_takes}
use Rattle.bt_ways.proofs.laws.node_takes.Goals as goal

pub returns : goal.returns
returns c = node_takes
