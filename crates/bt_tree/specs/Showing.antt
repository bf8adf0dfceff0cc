-- Items shown where they lie.
use Rattle.std.specs.Prelude.{◌≡◌, ℕ, Bool, true, false, List, [], ◌∷◌, Option, None, Some, filter, slice_get, option_and_then}
use Rattle.std.specs.declared.cmp.Ordering.{Ordering}
use Rattle.tc_base.specs.Lists.{below}
use Rattle.tc_base.specs.Maps.{Map}
use Rattle.tc_base.specs.declared.order.Order.{Ghosts as Orders}
use Rattle.tc_base.specs.declared.seq.Pair.{Pair}
use Rattle.tc_space.specs.declared.records.Records.{Ghosts as Stores}
use Rattle.tc_space.specs.declared.space.Space.{Ghosts}
use Rattle.bt_page.specs.declared.page.Item.{Item}
use Rattle.bt_page.specs.declared.page.Leaf.{Leaf}
use Rattle.bt_rows.specs.declared.page.Page.TheVariants.{Leaf as leaf_page}
use Rattle.bt_rows.specs.Orders.{before_by}
use Rattle.bt_rows.specs.Rules.{Ascends}
use Rattle.bt_cache.specs.Held.{Beside, HasPage}
use Rattle.bt_ways.specs.Items.{IsLeafFor, item_in}
use Rattle.bt_tree.specs.declared.tree.Tree.{Tree}
use Rattle.bt_tree.specs.Meaning.{Means}

-- ---- which item

abbrev pub head_key : List Pair → Option (List ℕ)
head_key [] = None
head_key (p ∷ ps) = Some p.key

abbrev pub end_key : List Pair → Option (List ℕ)
end_key [] = None
end_key (p ∷ []) = Some p.key
end_key (p ∷ q ∷ ps) = end_key (q ∷ ps)

-- the item of the first pair, that of the last one, and that of the last one with a lesser key
abbrev pub item_first : List Pair → Option Item
item_first ps = option_and_then (λ key. item_in key ps) (head_key ps)

abbrev pub item_last : List Pair → Option Item
item_last ps = option_and_then (λ key. item_in key ps) (end_key ps)

abbrev pub item_before : (List ℕ → List ℕ → Ordering) → List ℕ → List Pair → Option Item
item_before cmp key ps = item_last (below cmp ps key)

-- the last of items
abbrev pub end_of : List Item → Option Item
end_of [] = None
end_of (x ∷ []) = Some x
end_of (x ∷ y ∷ xs) = end_of (y ∷ xs)

-- ---- what was shown

-- what is shown items stands so to what it was before one, and behind it, and to whether it wants more
abbrev pub Takes : Type 0 → Type 1
Takes T = T → Item → T → Bool → Type 0

module _ {T : Type 0} (takes : Takes T) where
  -- an item was shown, whatever more is wanted; or there is none, and nothing was; and this is whether there is one
  abbrev pub ShownOf : Option Item → Bool → T → T → Type 0
  ShownOf None held t u = (held ≡ false) × (u ≡ t)
  ShownOf (Some x) held t u = (held ≡ true) × (more : Bool) × takes t x u more

  -- the item at a place was shown
  abbrev pub ShowsPlace : Leaf → ℕ → T → T → Bool → Type 0
  ShowsPlace l place t u more = (x : Item) → slice_get l.items place ≡ Some x → takes t x u more

  -- the last item of a leaf was
  abbrev pub ShowsLastOf : Leaf → Bool → T → T → Type 0
  ShowsLastOf l held t u = ShownOf (end_of l.items) held t u

-- items with a lesser key
abbrev pub items_below : (List ℕ → List ℕ → Ordering) → List ℕ → List Item → List Item
items_below cmp key xs = filter (λ x. before_by cmp x.key key) xs

-- the last item of a leaf with a lesser key was shown
abbrev pub ShowsBelow : {T : Type 0} → (List ℕ → List ℕ → Ordering) → List ℕ → Takes T → Leaf → T → T → Type 0
ShowsBelow cmp key takes l t u = Ascends (before_by cmp) l.items → ShownOf takes (end_of (items_below cmp key l.items)) true t u

-- or a leaf has none, nothing was shown, and this is the id of the leaf in front
pub record LeadsInFront {T : Type 0} (cmp : List ℕ → List ℕ → Ordering) (key : List ℕ) (l : Leaf) (id : ℕ) (t u : T) : Type 0 where
  pub none : Ascends (before_by cmp) l.items → items_below cmp key l.items ≡ []
  pub front : id ≡ l.prev
  pub same : u ≡ t

-- where a key belongs into a leaf, this item was shown of the pairs among which it belongs
abbrev pub ShowsAt : {T : Type 0} → (List ℕ → List ℕ → Ordering) → List ℕ → (List Pair → Option Item) → Takes T → Leaf → Bool → T → T → Type 0
ShowsAt cmp key f takes leaf held t u = (ps : List Pair) → IsLeafFor (before_by cmp) key ps leaf → ShownOf takes (f ps) held t u

-- the last item of the leaf of an id was shown
abbrev pub ShowsOne : {S V O T : Type 0} → Ghosts S → Stores V S → Takes T → ℕ → Tree V O → S → Bool → T → T → Type 0
ShowsOne s R takes id tree space held t u = (m : Map) (l : Leaf) → Beside s R (tree.cache.pages, tree.store) space m → HasPage m id (leaf_page l) → ShowsLastOf takes l held t u

-- whatever pairs a tree means, this item of them was shown
abbrev pub ShowsItem : {S V O T : Type 0} → Ghosts S → Stores V S → Orders O → (List Pair → Option Item) → Takes T → Tree V O → S → Bool → T → T → Type 0
ShowsItem s R o f takes tree space held t u = (ps : List Pair) → Means s R o tree space ps → ShownOf takes (f ps) held t u
