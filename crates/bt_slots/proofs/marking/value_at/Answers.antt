use Rattle.std.proofs.Common.{◌∙◌, ap, List, ℕ}
use Rattle.bt_slots.specs.Reads.{value_in}
use Rattle.bt_slots.proofs.marking.value_at.Goals as goal

pub returns : goal.returns
returns c = ap (λ (x : List ℕ × List ℕ). x.0) c.next_value.ensures ∙ ap (λ (l : List ℕ). (value_in l).0) c.rest_from.ensures.is
