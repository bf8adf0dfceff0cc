use Rattle.std.proofs.Common.{true}
use Rattle.bt_check.proofs.Sets.{has_after}
use Rattle.bt_check.proofs.ids.add.Goals as goal

pub returns-clause-has : goal.returns-clause-has
returns-clause-has c = let u = c.in_ok-insert.ensures.updates in has_after c.args.ids.now c.insert.new.self c.args.id true u.0
