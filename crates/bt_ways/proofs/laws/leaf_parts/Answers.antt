use Rattle.bt_ways.proofs.Parting.{leaf_parts}
use Rattle.bt_ways.proofs.laws.leaf_parts.Goals as goal

pub returns : goal.returns
returns c = leaf_parts
