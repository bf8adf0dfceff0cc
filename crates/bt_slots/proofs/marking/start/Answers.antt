use Rattle.bt_slots.proofs.Marks.{stands_first}
use Rattle.bt_slots.proofs.marking.start.Goals as goal

pub returns-then-mark-place-clause-at : goal.returns-then-mark-place-clause-at
returns-then-mark-place-clause-at c = λ further there. stands_first further

pub returns-then-mark-n-clause-at : goal.returns-then-mark-n-clause-at
returns-then-mark-n-clause-at c = λ further there. stands_first further

pub returns-clause-at : goal.returns-clause-at
returns-clause-at c = λ further there. there c.if-mark-place.false
