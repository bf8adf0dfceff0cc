use Rattle.ty_world.proofs.Scripts.{linked_of}
use Rattle.ty_world.proofs.laws.turns_suffice_a_replica.Goals as goal

pub returns : goal.returns
returns c = linked_of
