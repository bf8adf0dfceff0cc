use Rattle.std.proofs.Common.{false}
use Rattle.bt_check.proofs.Sets.{has_after, has_is}
use Rattle.bt_check.proofs.ids.take.Goals as goal

pub returns-clause-was : goal.returns-clause-was
returns-clause-was c = has_is c.args.ids.now c.args.id c.remove.result c.remove.ensures.test

pub returns-clause-gone : goal.returns-clause-gone
returns-clause-gone c = let u = c.remove.ensures.updates in has_after c.args.ids.now c.remove.new.self c.args.id false u.0
