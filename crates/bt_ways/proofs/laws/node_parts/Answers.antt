use Rattle.bt_ways.proofs.Climbing.{node_parts}
use Rattle.bt_ways.proofs.laws.node_parts.Goals as goal

pub returns : goal.returns
returns c = node_parts
