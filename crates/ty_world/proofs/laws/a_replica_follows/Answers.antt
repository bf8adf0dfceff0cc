use Rattle.ty_world.proofs.Follows.{all_follow}
use Rattle.ty_world.proofs.laws.a_replica_follows.Goals as goal

pub returns : goal.returns
returns c = all_follow
