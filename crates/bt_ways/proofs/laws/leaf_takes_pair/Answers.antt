use Rattle.bt_ways.proofs.Changing.{leaf_takes_pair}
use Rattle.bt_ways.proofs.laws.leaf_takes_pair.Goals as goal

pub returns : goal.returns
returns c = leaf_takes_pair
