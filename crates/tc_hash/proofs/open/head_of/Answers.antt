use Rattle.tc_hash.proofs.Opened.{no_head_read}
use Rattle.tc_hash.proofs.open.head_of.Goals as goal

pub returns-in_default-clause-none : goal.returns-in_default-clause-none
returns-in_default-clause-none c = λ h v s k. no_head_read c.read.result c.in_default.field-0 h c.in_default.is ((c.read.ensures.ok h).1 (v, s))

pub returns-clause-some : goal.returns-clause-some
returns-clause-some c = let v = (c.read.ensures.ok c.in-Ok.head).0 c.in-Ok.is in (v.0, v.1, c.if-head-kind.false)
