use Rattle.ty_world.proofs.Sent.{all_was}
use Rattle.ty_world.proofs.laws.all_was_sent.Goals as goal

pub returns : goal.returns
returns c = λ es o. all_was es o.is o.ticks o.opens o.mark
