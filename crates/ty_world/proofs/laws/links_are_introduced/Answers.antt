use Rattle.ty_world.proofs.Introduced.{all_introduced}
use Rattle.ty_world.proofs.laws.links_are_introduced.Goals as goal

pub returns : goal.returns
returns c = λ es o. all_introduced es o.is o.ticks o.opens o.mark
