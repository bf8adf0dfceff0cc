use Rattle.std.proofs.Common.{◌∙◌}
use Rattle.td_query.proofs.Including.{found_is}
use Rattle.td_query.proofs.operators.includes.Goals as goal

pub returns : goal.returns
returns c = c.is_some.ensures ∙ found_is c.args.v.now c.args.w.now c.find.result c.find.ensures
