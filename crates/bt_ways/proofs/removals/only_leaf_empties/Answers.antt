use Rattle.bt_ways.proofs.RemovingRoots.{only_leaf_empties}
use Rattle.bt_ways.proofs.removals.only_leaf_empties.Goals as goal

pub returns : goal.returns
returns c = only_leaf_empties
