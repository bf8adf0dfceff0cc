use Rattle.std.proofs.Common.{take, ◌∙◌}
use Rattle.bt_slots.specs.Reads.{item_in}
use Rattle.bt_slots.proofs.fronts.item_key.Goals as goal

pub returns : goal.returns
unfolding item_in
returns c = c.cut.ensures.0 ∙ (λ i. take (c.item_head-key.ensures.key i) (c.item_head-key.ensures.more i).1)
