use Rattle.std.proofs.Common.{◌∙◌, ap}
use Rattle.bt_slots.specs.Reads.{cut}
use Rattle.bt_slots.proofs.lying.next_value.Goals as goal

pub returns : goal.returns
returns c = (λ i. (c.cut.ensures.0 i, c.cut.ensures.1 i)) ∙ ap cut c.number-size.ensures
