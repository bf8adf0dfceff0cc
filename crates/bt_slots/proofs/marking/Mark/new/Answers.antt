use Rattle.bt_slots.specs.Marks.{further_bytes}
use Rattle.bt_slots.proofs.Marks.{stands_first}
use Rattle.bt_slots.proofs.marking.Mark.new.Goals as goal

pub returns : goal.returns
returns c = λ l x at. stands_first (further_bytes x)
