use Rattle.ty_look.proofs.Ongoing.{keys_go_on}
use Rattle.ty_look.proofs.looking.keys_at.Goals as goal

pub returns : goal.returns
returns c = keys_go_on _ _ _ c.in-Ok.ensures.size c.in-Ok.ensures.small.0
