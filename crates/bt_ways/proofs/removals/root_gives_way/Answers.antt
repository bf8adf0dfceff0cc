use Rattle.bt_ways.proofs.RemovingRoots.{root_gives_way}
use Rattle.bt_ways.proofs.removals.root_gives_way.Goals as goal

pub returns : goal.returns
returns c = root_gives_way
