-- A pair that comes into a leaf, and pairs that go out of it.
use Rattle.std.specs.Prelude.{◌≡◌, ◌⊎◌, ℕ, ◌+◌, ◌-◌, ◌<◌, ◌≤◌, List, [], ◌∷◌, ◌++◌, Bool, true, false, length, take, drop, if◌then◌else◌}
use Rattle.std.specs.List.{AllByRecursion, flat_map}
use Rattle.std.specs.Cmp.{IsTotalOrder}
use Rattle.std.specs.declared.cmp.Ordering.{Ordering}
use Rattle.tc_base.specs.Lists.{with_first, with_last, without_all, without_first}
use Rattle.tc_base.specs.declared.seq.Pair.{Pair}
use Rattle.bt_page.specs.Limits.{LeafWithin}
use Rattle.bt_page.specs.Pages.{HasValue}
use Rattle.bt_page.specs.declared.page.Item.{Item}
use Rattle.bt_rows.specs.declared.page.LeafAt.{LeafAt}
use Rattle.bt_rows.specs.Levels.{NodeAt, Stands}
use Rattle.bt_rows.specs.Orders.{before_by, IsOrder}
use Rattle.bt_rows.specs.Pages.{PageMap}
use Rattle.bt_rows.specs.Rules.{Ascends, InOrder, item_pairs, pairs_of}
use Rattle.bt_ways.specs.Ways.{Found}

-- a value comes behind those of its key; or in the place of the first, or with its key where that isn't held
abbrev pub inserted : (List ℕ → List ℕ → Ordering) → Bool → List ℕ → List ℕ → List Pair → List Pair
inserted cmp true key value ps = with_last cmp ps key value
inserted cmp false key value ps = with_first cmp ps key value

-- so it is seen of the key's values
abbrev pub values_with : Bool → List ℕ → List (List ℕ) → List (List ℕ)
values_with true value vs = vs ++ value ∷ []
values_with false value vs = value ∷ drop 1 vs

-- the first pair of a key goes, or all
abbrev pub removed : (List ℕ → List ℕ → Ordering) → Bool → List ℕ → List Pair → List Pair
removed cmp true key ps = without_all cmp ps key
removed cmp false key ps = without_first cmp ps key

-- so it is seen of the key's values
abbrev pub values_without : Bool → List (List ℕ) → List (List ℕ)
values_without true vs = []
values_without false vs = drop 1 vs

abbrev pub items_pairs : List Item → List Pair
items_pairs items = flat_map item_pairs items

-- items of a leaf in order, each with a value
pub record AreItems (cmp : List ℕ → List ℕ → Ordering) (items : List Item) : Type 0 where
  pub ascends : Ascends (before_by cmp) items
  pub some : AllByRecursion HasValue items

-- a pair came into a leaf: one item was added, or is another, at this place; and whether there is a pair more
pub record IsChanged (cmp : List ℕ → List ℕ → Ordering) (last : Bool) (key value : List ℕ) (old new : List Item) (place : ℕ) (grown : Bool) : Type 0 where
  pub front : List Item
  pub item : Item
  pub back : List Item
  pub old_is : (old ≡ front ++ back) ⊎ ((was : Item) × (was.key ≡ key) × (old ≡ front ++ was ∷ back))
  pub new_is : new ≡ front ++ item ∷ back
  pub key_is : item.key ≡ key
  pub place_is : place ≡ length front
  pub items : AreItems cmp new
  pub pairs : items_pairs new ≡ inserted cmp last key value (items_pairs old)
  pub count : length (items_pairs new) ≡ length (items_pairs old) + (if grown then 1 else 0)

-- of these items, one at most, nothing is left, or the one without its first value
abbrev pub IsLeft : List Item → List Item → Type 0
IsLeft its left = (left ≡ []) ⊎ ((was : Item) × (its ≡ was ∷ []) × (left ≡ record { key = was.key; values = drop 1 was.values } ∷ []))

-- the first pair of a key went out of a leaf, or all, none where the key isn't held: the key's item is gone, or is another; and how many went
pub record IsTaken (cmp : List ℕ → List ℕ → Ordering) (all : Bool) (key : List ℕ) (old new : List Item) (gone : ℕ) : Type 0 where
  pub front : List Item
  pub its : List Item
  pub left : List Item
  pub back : List Item
  pub old_is : old ≡ front ++ (its ++ back)
  pub new_is : new ≡ front ++ (left ++ back)
  pub left_is : IsLeft its left
  pub items : AreItems cmp new
  pub pairs : items_pairs new ≡ removed cmp all key (items_pairs old)
  pub count : length (items_pairs new) + gone ≡ length (items_pairs old)

-- within the limits of a leaf
abbrev pub ItemsWithin : ℕ → List Item → Type 0
ItemsWithin limit items = LeafWithin limit (record { prev = 0; next = 0; items = items })

-- items are parted before the i-th, and before the j-th where that is not the last's end, into parts that are within the limits and not empty
pub record IsCut (limit : ℕ) (items : List Item) (i j : ℕ) : Type 0 where
  pub some : 0 < i
  pub more : i < j
  pub within : j ≤ length items
  pub first : ItemsWithin limit (take i items)
  pub second : ItemsWithin limit (take (j - i) (drop i items))
  pub third : ItemsWithin limit (drop j items)

-- the items in front of one and those behind it are within the limits, together they aren't
pub record IsOver (limit : ℕ) (items : List Item) (place : ℕ) : Type 0 where
  pub least : 4 ≤ limit
  pub keys : length items ≤ limit + 1
  pub inside : place < length items
  pub front : ItemsWithin limit (take place items)
  pub back : ItemsWithin limit (drop (place + 1) items)
  pub over : ItemsWithin limit items → ⊥

-- where a pair came into the leaf where its key belongs, the leaves stay in order, and the pair came into their pairs
abbrev pub LeafTakesPair : Type 0
LeafTakesPair =
    (cmp : List ℕ → List ℕ → Ordering) → IsTotalOrder cmp → IsOrder (before_by cmp) → (last : Bool) (pages : PageMap) (root : ℕ) (key value : List ℕ) (leaves : List LeafAt) (levels : List (List NodeAt)) (path : List (ℕ × ℕ)) (id : ℕ)
    → Stands (before_by cmp) pages root leaves levels → (f : Found (before_by cmp) root key leaves levels path id) (items : List Item) (place : ℕ) (grown : Bool)
    → IsChanged cmp last key value f.leaf.leaf.items items place grown
    → InOrder (before_by cmp) (f.front ++ record { slot = f.leaf.slot; leaf = record { prev = f.leaf.leaf.prev; next = f.leaf.leaf.next; items = items } } ∷ f.back)
    × (pairs_of (f.front ++ record { slot = f.leaf.slot; leaf = record { prev = f.leaf.leaf.prev; next = f.leaf.leaf.next; items = items } } ∷ f.back) ≡ inserted cmp last key value (pairs_of leaves))

-- where pairs went out of the leaf where their key belongs, the leaves stay in order, and the pairs went out of theirs
abbrev pub LeafLosesPairs : Type 0
LeafLosesPairs =
    (cmp : List ℕ → List ℕ → Ordering) → IsTotalOrder cmp → IsOrder (before_by cmp) → (all : Bool) (pages : PageMap) (root : ℕ) (key : List ℕ) (leaves : List LeafAt) (levels : List (List NodeAt)) (path : List (ℕ × ℕ)) (id : ℕ)
    → Stands (before_by cmp) pages root leaves levels → (f : Found (before_by cmp) root key leaves levels path id) (items : List Item) (gone : ℕ)
    → IsTaken cmp all key f.leaf.leaf.items items gone
    → InOrder (before_by cmp) (f.front ++ record { slot = f.leaf.slot; leaf = record { prev = f.leaf.leaf.prev; next = f.leaf.leaf.next; items = items } } ∷ f.back)
    × (pairs_of (f.front ++ record { slot = f.leaf.slot; leaf = record { prev = f.leaf.leaf.prev; next = f.leaf.leaf.next; items = items } } ∷ f.back) ≡ removed cmp all key (pairs_of leaves))
