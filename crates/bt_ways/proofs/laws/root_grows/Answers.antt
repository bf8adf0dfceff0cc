use Rattle.bt_ways.proofs.Climbing.{root_grows}
use Rattle.bt_ways.proofs.laws.root_grows.Goals as goal

pub returns : goal.returns
returns c = root_grows
