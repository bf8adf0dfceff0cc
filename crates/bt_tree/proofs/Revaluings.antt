-- A leaf with other values at a place.
use Rattle.std.proofs.Common.{◌≡◌, ℕ, ◌<◌, List, arith, length, length-set, ap}
use Rattle.bt_page.specs.declared.page.Item.{Item}
use Rattle.bt_page.specs.declared.page.Leaf.{Leaf}
use Rattle.bt_slots.specs.Slots.{HasValuesAt}
use Rattle.bt_ways.proofs.Spots.{item_of_place}

module _ (f : List (List ℕ) → List (List ℕ)) (place : ℕ) (old new : Leaf) (lt : place < length old.items) (is : HasValuesAt f place old new) where
  pub same_links : (new.prev ≡ old.prev) × (new.next ≡ old.next)
  same_links =
      let x = item_of_place old.items place lt in
      let e = is x.0 x.1 in
      (ap (λ (l : Leaf). l.prev) e, ap (λ (l : Leaf). l.next) e)

  pub still_inside : place < length new.items
  still_inside =
      let x = item_of_place old.items place lt in
      let item : Item = record { key = x.0.key; values = f x.0.values } in
      omega (arith, lt, ap (λ (l : Leaf). length l.items) (is x.0 x.1), length-set old.items place item)
