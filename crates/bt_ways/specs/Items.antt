-- The values of one key.
use Rattle.std.specs.Prelude.{◌≡◌, ℕ, List, [], ◌∷◌, ◌++◌, Option, Some, None, true}
use Rattle.std.specs.List.{AllByRecursion, flat_map}
use Rattle.tc_base.specs.Lists.{values}
use Rattle.tc_base.specs.declared.seq.Pair.{Pair}
use Rattle.bt_page.specs.Pages.{HasValue}
use Rattle.bt_page.specs.declared.page.Item.{Item}
use Rattle.bt_page.specs.declared.page.Leaf.{Leaf}
use Rattle.bt_rows.specs.Orders.{Before}
use Rattle.bt_rows.specs.Rules.{Ascends, item_pairs}

abbrev pub item_of : List ℕ → List (List ℕ) → Option Item
item_of key [] = None
item_of key (v ∷ vs) = Some (record { key = key; values = v ∷ vs })

-- a key with all its values, if it is held
abbrev pub item_in : List ℕ → List Pair → Option Item
item_in key ps = item_of key (values ps key)

-- the leaf where a key belongs: all pairs in front of its own are below the key, all behind them above it
pub record IsLeafFor (before : Before) (key : List ℕ) (ps : List Pair) (leaf : Leaf) : Type 0 where
  pub ascends : Ascends before leaf.items
  pub some : AllByRecursion HasValue leaf.items
  pub front : List Pair
  pub back : List Pair
  pub are : ps ≡ front ++ (flat_map item_pairs leaf.items ++ back)
  pub low : AllByRecursion (λ p. before p.key key ≡ true) front
  pub high : AllByRecursion (λ p. before key p.key ≡ true) back
