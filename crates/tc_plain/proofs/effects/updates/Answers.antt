use Rattle.ty_wire.proofs.UpdateTest.{updates_is}
use Rattle.tc_plain.proofs.effects.updates.Goals as goal

pub returns : goal.returns
returns c = updates_is c.is_updating.result c.args.r.now c.is_updating.ensures.0 c.is_updating.ensures.1
