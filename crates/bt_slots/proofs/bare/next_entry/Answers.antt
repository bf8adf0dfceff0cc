use Rattle.bt_slots.proofs.BareReads.{entry_next}
use Rattle.bt_slots.proofs.bare.next_entry.Goals as goal

pub returns : goal.returns
returns c = entry_next c.args.bytes.now _ _ _ _ _ _ c.number-child.ensures c.number-size.ensures c.cut.ensures.0 c.cut.ensures.1
