use Rattle.std.proofs.Common.{refl}
use Rattle.ty_look.proofs.Ongoing.{arguments_go_on}
use Rattle.ty_look.proofs.looking.arguments_at.Goals as goal

pub returns : goal.returns
returns c = arguments_go_on _ _ _ _ _ _ _ _ c.in-Ok.ensures.size c.in-Ok-word_of.ensures refl c.in-Ok-read_size.ensures.size c.if-rest-n.false c.in-Ok-read_size.ensures.small.0
