use Rattle.tc_memstores.proofs.Overlaid.{renewed}
use Rattle.tc_memstores.proofs.cells.renew.Goals as goal

pub returns-clause-held : goal.returns-clause-held
returns-clause-held c = λ t m h. renewed c.args.last.now c.in-Some.last m c.args.key.now c.in-Some.is c.refill.new.old c.args.value.now (c.is_key.ensures.0 c.if-not-is_key.false) c.in-Ok.ensures.ok h
