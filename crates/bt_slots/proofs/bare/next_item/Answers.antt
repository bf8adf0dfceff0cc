use Rattle.bt_slots.proofs.BareReads.{item_next}
use Rattle.bt_slots.proofs.bare.next_item.Goals as goal

pub returns : goal.returns
returns c = item_next c.args.bytes.now _ _ _ _ _ _ _ _ _ c.item_head-size.ensures.key c.item_head-size.ensures.first c.item_head-size.ensures.more c.cut.ensures.0 c.cut.ensures.1 c.cut-2.ensures.0 c.cut-2.ensures.1 c.behind_further-behind.ensures
