use Rattle.std.proofs.Common.{arith, refl}
use Rattle.bt_slots.proofs.BareReads.{values_long}
use Rattle.bt_cursor.proofs.takers.LastTaker.take.Goals as goal

pub returns-clause-taken : goal.returns-clause-taken
returns-clause-taken c =
    (omega (arith, values_long c.args.item.now.more c.args.item.now.further.now), refl)
