use Rattle.bt_ways.proofs.Taking.{leaf_loses_pairs}
use Rattle.bt_ways.proofs.laws.leaf_loses_pairs.Goals as goal

pub returns : goal.returns
returns c = leaf_loses_pairs
