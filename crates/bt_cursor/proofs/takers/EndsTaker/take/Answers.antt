use Rattle.std.proofs.Common.{refl}
use Rattle.bt_cursor.proofs.Lookings.{end_seen}
use Rattle.bt_cursor.proofs.takers.EndsTaker.take.Goals as goal

pub returns-clause-taken : goal.returns-clause-taken
returns-clause-taken c =
    (end_seen c.args.item.now.key.now c.in_ok-from_slice.field-0 c.args.item.now.first.now c.args.item.now.more c.args.item.now.further.now c.in_ok-from_slice.ensures, refl)
