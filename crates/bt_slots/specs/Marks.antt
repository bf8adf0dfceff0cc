-- Where a further value of an item was found.
use Rattle.std.specs.Prelude.{◌≡◌, ℕ, zero, suc, ◌≤◌, List, drop, length, slice_get, Option, Some, None}
use Rattle.std.specs.List.{flat_map}
use Rattle.bt_page.specs.Pages.{value_bytes}
use Rattle.bt_page.specs.declared.page.Item.{Item}
use Rattle.bt_page.specs.declared.page.Leaf.{Leaf}
use Rattle.bt_slots.specs.Lying.{behind_values}
use Rattle.bt_slots.specs.declared.marking.Mark.{Mark}

-- behind so many bytes the value of a number stands, with those behind it
pub record StandsAt (number offset : ℕ) (bytes : List ℕ) : Type 0 where
  pub within : offset ≤ length bytes
  pub begins : drop offset bytes ≡ behind_values number bytes

-- the bytes of an item's values behind the first
abbrev pub further_bytes : Item → List ℕ
further_bytes x = flat_map value_bytes (drop 1 x.values)

-- the mark is that of a value of a leaf
abbrev pub IsMark : Leaf → Mark → Type 0
IsMark l mark = (x : Item) → slice_get l.items mark.place ≡ Some x → StandsAt mark.number mark.offset (further_bytes x)

-- where a further value was found by its number among all values, the mark is of it; else it stays
abbrev pub Moves : ℕ → ℕ → Option (List ℕ) → Mark → Mark → Type 0
Moves place zero found old new = new ≡ old
Moves place (suc n) None old new = new ≡ old
Moves place (suc n) (Some value) old new = (new.place ≡ place) × (new.number ≡ n)
