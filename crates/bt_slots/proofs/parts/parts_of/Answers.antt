use Rattle.bt_slots.proofs.Pieces.{parts_are}
use Rattle.bt_slots.proofs.parts.parts_of.Goals as goal

pub returns : goal.returns
returns c = parts_are c.args.item.now _ _ _ _ _ _ _ _ c.item_head-key.ensures.key c.item_head-key.ensures.first c.item_head-key.ensures.more c.cut.ensures.0 c.cut.ensures.1 c.cut-2.ensures.0 c.cut-2.ensures.1
