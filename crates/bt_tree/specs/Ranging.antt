-- The first pairs of a stretch of keys.
use Rattle.std.specs.Prelude.{◌≡◌, ◌≢◌, ◌⊎◌, ℕ, ◌+◌, ◌≤◌, List, [], ◌∷◌, ◌++◌, map, take, drop, length, Bool, true, false, Some, slice_get, nat_lt, if◌then◌else◌}
use Rattle.std.specs.List.{AllByRecursion, flat_map}
use Rattle.std.specs.declared.cmp.Ordering.{Ordering}
use Rattle.tc_base.specs.Lists.{pair}
use Rattle.tc_base.specs.Maps.{Map}
use Rattle.tc_base.specs.declared.order.Order.{Ghosts as Orders}
use Rattle.tc_base.specs.declared.order.Side.{Side}
use Rattle.tc_base.specs.declared.order.Side.TheVariants as side
use Rattle.tc_base.specs.declared.seq.Pair.{Pair}
use Rattle.tc_space.specs.Changes.{inside, is_inside}
use Rattle.tc_space.specs.Frames.{Reads}
use Rattle.tc_space.specs.Stores.{Ticks}
use Rattle.tc_space.specs.declared.records.Records.{Ghosts as Stores}
use Rattle.tc_space.specs.declared.space.Space.{Ghosts}
use Rattle.bt_page.specs.Pages.{HasValue}
use Rattle.bt_page.specs.declared.page.Item.{Item}
use Rattle.bt_page.specs.declared.page.Leaf.{Leaf}
use Rattle.bt_rows.specs.declared.page.LeafAt.{LeafAt}
use Rattle.bt_rows.specs.Orders.{Before, before_by}
use Rattle.bt_rows.specs.Rules.{Ascends, item_pairs, leaf_pairs}
use Rattle.bt_rows.specs.declared.page.Page.TheVariants.{Leaf as leaf_page}
use Rattle.bt_cache.specs.Held.{Beside, HasPage}
use Rattle.bt_tree.specs.declared.tree.Tree.{Tree}
use Rattle.bt_tree.specs.Meaning.{Means}
use Rattle.bt_tree.specs.Visits.{LooksAt, StaysTree}

-- ---- what is seen from outside

-- nothing is written, the pairs stay, what was packed is so still, and the counter rises by at least as much as the store was asked
pub record Scans {S V O : Type 0} (s : Ghosts S) (R : Stores V S) (o : Orders O) (t u : Tree V O) (steps steps' : ℕ) (old new : S) : Type 0 where
  pub reads : Reads s (Means s R o) t u old new
  pub looks : LooksAt s R t u old new
  pub ticks : Ticks (R.gets t.store) (R.gets u.store) steps steps'
  pub stays : StaysTree t u

-- how many leaves hold a pair of the stretch
abbrev pub leaves_inside : (List ℕ → Side) → List LeafAt → ℕ
leaves_inside side [] = 0
leaves_inside side (l ∷ ls) = (if nat_lt 0 (length (inside side (leaf_pairs l))) then 1 else 0) + leaves_inside side ls

-- whatever tree was meant, the most pages that are read are its height, its leaves that hold a pair of the stretch, and one more; whatever a store tells, they are its height and as many as
-- pairs are wanted
pub record FewPages {S V O : Type 0} (s : Ghosts S) (R : Stores V S) (o : Orders O) (side : List ℕ → Side) (max : ℕ) (t : Tree V O) (old : S) (steps steps' : ℕ) : Type 0 where
  pub leaves : (ps : List Pair) (h : Means s R o t old ps) → steps' ≤ steps + t.height + 1 + leaves_inside side h.1.is.tree.leaves
  pub most : steps' ≤ steps + t.height + max

-- ---- in one page

abbrev pub is_front : Side → Bool
is_front side.Before = true
is_front side.Inside = false
is_front side.After = false

abbrev pub is_from : Side → Bool
is_from side.Before = false
is_from side.Inside = true
is_from side.After = true

-- the front end of a stretch, in place of a key: all that isn't in front of the stretch is above it
abbrev pub start_of : (List ℕ → Side) → Before
start_of side any key = is_from (side key)

-- so many items are in front of a stretch, and the others aren't
pub record IsStart (side : List ℕ → Side) (items : List Item) (place : ℕ) : Type 0 where
  pub front : AllByRecursion (λ x. is_front (side x.key) ≡ true) (take place items)
  pub others : AllByRecursion (λ x. is_from (side x.key) ≡ true) (drop place items)

-- the first of these pairs isn't inside
pub record StartsOutside (side : List ℕ → Side) (ps : List Pair) : Type 0 where
  pub first : Pair
  pub rest : List Pair
  pub are : ps ≡ first ∷ rest
  pub outside : is_inside (side first.key) ≡ false

-- so many values of an item went in, all of them or as many as there was room for
pub record IsFilled (max : ℕ) (item : Item) (old new : List Pair) (all : Bool) : Type 0 where
  pub went : ℕ
  pub grown : new ≡ old ++ map (pair item.key) (take went item.values)
  pub whole : all ≡ true → take went item.values ≡ item.values
  pub full : all ≡ false → max ≤ length new
  pub room : length old ≤ max → length new ≤ max

-- the pairs of items went in as long as they are inside and there was room
pub record IsAdded (side : List ℕ → Side) (max : ℕ) (ps old new : List Pair) (all : Bool) : Type 0 where
  pub went : List Pair
  pub left : List Pair
  pub are : ps ≡ went ++ left
  pub inside : AllByRecursion (λ p. is_inside (side p.key) ≡ true) went
  pub grown : new ≡ old ++ went
  pub whole : all ≡ true → left ≡ []
  pub ended : all ≡ false → (max ≤ length new) ⊎ StartsOutside side left
  pub room : length old ≤ max → length new ≤ max

-- of a leaf those inside went in, and the next leaf is told where there may be more
pub record IsScanned (side : List ℕ → Side) (max : ℕ) (l : Leaf) (old new : List Pair) (next : ℕ) : Type 0 where
  pub front : List Pair
  pub went : List Pair
  pub left : List Pair
  pub are : flat_map item_pairs l.items ≡ front ++ (went ++ left)
  pub skipped : AllByRecursion (λ p. is_front (side p.key) ≡ true) front
  pub inside : AllByRecursion (λ p. is_inside (side p.key) ≡ true) went
  pub from : AllByRecursion (λ p. is_from (side p.key) ≡ true) left
  pub grown : new ≡ old ++ went
  pub room : length old ≤ max → length new ≤ max
  pub on : next ≢ 0 → (left ≡ []) × (next ≡ l.next)
  pub ended : next ≡ 0 → (max ≤ length new) ⊎ (((left ≡ []) × (l.next ≡ 0)) ⊎ StartsOutside side left)

-- so many values of the item at a place went in
abbrev pub FillsAt : ℕ → Leaf → ℕ → List Pair → List Pair → Bool → Type 0
FillsAt max leaf place old new all = (x : Item) → slice_get leaf.items place ≡ Some x → IsFilled max x old new all

-- so the pairs of items that have values went in, and those of a leaf whose items are in order
abbrev pub AddsItems : (List ℕ → Side) → ℕ → List Item → List Pair → List Pair → Bool → Type 0
AddsItems side max items old new all = AllByRecursion HasValue items → IsAdded side max (flat_map item_pairs items) old new all

abbrev pub ScansItems : (List ℕ → List ℕ → Ordering) → (List ℕ → Side) → ℕ → Leaf → List Pair → List Pair → ℕ → Type 0
ScansItems cmp side max leaf old new next = Ascends (before_by cmp) leaf.items → AllByRecursion HasValue leaf.items → IsScanned side max leaf old new next

-- so it was of whatever leaf stands under an id
abbrev pub ScansLeaf : {S V O : Type 0} → Ghosts S → Stores V S → Before → (List ℕ → Side) → ℕ → ℕ → Tree V O → S → List Pair → List Pair → ℕ → Type 0
ScansLeaf s R before side max id t space old new next =
    (m : Map) (l : Leaf) → Beside s R (t.cache.pages, t.store) space m → HasPage m id (leaf_page l) → Ascends before l.items → IsScanned side max l old new next
