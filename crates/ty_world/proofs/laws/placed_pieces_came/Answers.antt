use Rattle.ty_world.proofs.Spelled.{all_spelled}
use Rattle.ty_world.proofs.laws.placed_pieces_came.Goals as goal

pub returns : goal.returns
returns c = λ es o. all_spelled es o.is o.ticks o.opens o.mark
