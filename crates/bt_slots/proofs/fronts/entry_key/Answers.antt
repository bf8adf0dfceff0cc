use Rattle.std.proofs.Common.{ℕ, List, ap, take, ◌∙◌}
use Rattle.bt_slots.specs.Reads.{number_in, entry_in}
use Rattle.bt_slots.proofs.fronts.entry_key.Goals as goal

pub returns : goal.returns
unfolding entry_in
returns c = c.cut.ensures.0 ∙ ap (λ (x : ℕ × List ℕ). take x.0 x.1) (c.number-size.ensures ∙ ap number_in c.behind_number.ensures)
