use Rattle.ty_world.proofs.Unlogged.{unnoted}
use Rattle.ty_world.proofs.laws.nothing_is_noted.Goals as goal

pub returns : goal.returns
returns c = unnoted
