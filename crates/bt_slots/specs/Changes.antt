-- Changes of a leaf that is kept as its bytes, beside the places where its items begin.
use Rattle.std.specs.Prelude.{◌≡◌, ℕ, ◌+◌, ◌-◌, ◌^◌, ◌<◌, ◌≤◌, List, ◌++◌, take, drop, set}
use Rattle.bt_page.specs.Pages.{leaf_bytes, ItemFits}
use Rattle.bt_page.specs.declared.page.Item.{Item}
use Rattle.bt_page.specs.declared.page.Leaf.{Leaf}
use Rattle.bt_slots.specs.Slots.{with_items}

-- where a place comes behind what ended at one place and ends at another
abbrev pub shifted : ℕ → ℕ → ℕ → ℕ
shifted from to start = start - from + to

-- it is behind the old end, and can be told from the new one
pub record MayShift (from to start : ℕ) : Type 0 where
  pub behind : from ≤ start
  pub fits : shifted from to start < 2 ^ 64

-- bytes of which those from one place to another are others
abbrev pub spliced : ℕ → ℕ → List ℕ → List ℕ → List ℕ
spliced from to new bytes = take from bytes ++ (new ++ drop to bytes)

-- the bytes of a leaf in which the item at a place is another
pub record HasItemAt (place : ℕ) (old : Leaf) (bytes : List ℕ) (new : Item) : Type 0 where
  pub fits : ItemFits new
  pub is : bytes ≡ leaf_bytes (with_items old (set old.items place new))
