use Rattle.std.proofs.Common.{refl}
use Rattle.tc_fixed.proofs.open.head_of.Goals as goal

pub returns-in-Ok-clause-some : goal.returns-in-Ok-clause-some
returns-in-Ok-clause-some c = (c.in-Ok.ensures.ok c.in-Ok.head).0 refl
