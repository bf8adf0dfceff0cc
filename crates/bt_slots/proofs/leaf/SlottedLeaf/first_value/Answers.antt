use Rattle.std.proofs.Common.{ℕ, List, ap, sym}
use Rattle.std.specs.Prelude.{slice_get}
use Rattle.bt_slots.proofs.leaf.SlottedLeaf.first_value.Goals as goal

pub returns : goal.returns
returns c = λ x is. sym (ap (λ (l : List (List ℕ)). slice_get l 0) (c.parts.ensures.are x is).values_are)
