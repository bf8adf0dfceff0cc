-- One value among those of a key, which is another or goes.
use Rattle.std.specs.Prelude.{◌≡◌, ◌⊎◌, ⊤, ℕ, ◌+◌, ◌<◌, ◌≤◌, List, Bool, false, true, Option, None, Some, Result, OnErr, length, nat_lt, set, slice_get}
use Rattle.std.specs.declared.cmp.Ordering.{Ordering}
use Rattle.tc_base.specs.Lists.{values, with_values}
use Rattle.tc_base.specs.declared.order.Order.{Ghosts as Orders}
use Rattle.tc_base.specs.declared.seq.Pair.{Pair}
use Rattle.tc_space.specs.Stores.{Only, TakesOut}
use Rattle.tc_space.specs.declared.records.Records.{Ghosts as Stores}
use Rattle.tc_space.specs.declared.space.Space.{Ghosts}
use Rattle.bt_page.specs.declared.page.Item.{Item}
use Rattle.bt_page.specs.declared.page.Leaf.{Leaf}
use Rattle.bt_rows.specs.declared.head.TreeHead.{TreeHead}
use Rattle.bt_rows.specs.declared.page.Page.{Page}
use Rattle.bt_rows.specs.declared.page.Page.TheVariants.{Leaf as leaf_page, Node as node_page}
use Rattle.bt_rows.specs.Orders.{before_by}
use Rattle.bt_rows.specs.Pages.{PageMap}
use Rattle.bt_slots.specs.Lying.{values_with_nth}
use Rattle.bt_ways.specs.Changes.{AreItems, ItemsWithin, items_pairs}
use Rattle.bt_ways.specs.Items.{IsLeafFor}
use Rattle.bt_ways.specs.Ways.{Found}
use Rattle.bt_tree.specs.declared.inserting.Changed.{Changed}
use Rattle.bt_tree.specs.declared.tree.Tree.{Tree}
use Rattle.bt_tree.specs.Inserting.{Gains, IsPutPage, WritesPages}
use Rattle.bt_tree.specs.Meaning.{Means, Meant, file_in}
use Rattle.bt_tree.specs.Paging.{IsOwn, LacksRoom, Shows, TellsNumbers}
use Rattle.bt_tree.specs.Parting.{ClimbsIn, LacksIds}
use Rattle.bt_tree.specs.Removing.{AddsNone, IsLess, LowersRoot}
use Rattle.bt_tree.specs.Trees.{IsTree}

-- the value at a place among those of a key is another, or goes
abbrev pub valued : (List ℕ → List ℕ → Ordering) → List ℕ → ℕ → Option (List ℕ) → List Pair → List Pair
valued cmp key place value ps = with_values cmp ps key (values_with_nth place value (values ps key))

-- whether there is such a value
abbrev pub has_nth : List ℕ → ℕ → List Pair → Bool
has_nth key place ps = nat_lt place (length (values ps key))

-- how many values less there are then
abbrev pub gone : Option (List ℕ) → ℕ
gone None = 1
gone (Some value) = 0

-- ---- in one leaf

-- the key's item stands at this place, and has so many values; or none is held there
abbrev pub IsPlaceOf : List ℕ → ℕ → Leaf → Option ℕ → List Pair → Type 0
IsPlaceOf key place l None ps = has_nth key place ps ≡ false
IsPlaceOf key place l (Some at) ps = (x : Item) × (slice_get l.items at ≡ Some x) × (x.key ≡ key) × (place < length x.values)

-- so it is of whatever pairs among which the key belongs into a leaf
abbrev pub PlacesIn : (List ℕ → List ℕ → Ordering) → List ℕ → ℕ → Leaf → Option ℕ → Type 0
PlacesIn cmp key place l at = (ps : List Pair) → IsLeafFor (before_by cmp) key ps l → IsPlaceOf key place l at ps

abbrev pub TellsPlace : {S V O : Type 0} → Ghosts S → Stores V S → (List ℕ → List ℕ → Ordering) → List ℕ → ℕ → ℕ → Tree V O → S → Option ℕ → Type 0
TellsPlace s R cmp key place id t space at = (pages : PageMap) (l : Leaf) → Shows s R t space pages → pages id ≡ Some (leaf_page l) → PlacesIn cmp key place l at

-- in the leaf where a key belongs a value is another, or went; the leaf isn't written yet
pub record RevaluesIn (cmp : List ℕ → List ℕ → Ordering) (key : List ℕ) (place : ℕ) (value : Option (List ℕ)) {h : TreeHead} {height : ℕ} {m : List ℕ → Option (List ℕ)} (tree : IsTree (before_by cmp) h height m) (path : List (ℕ × ℕ)) (x : Changed) : Type 0 where
  pub found : Found (before_by cmp) h.root key tree.leaves tree.levels path x.id
  pub prev : x.leaf.prev ≡ found.leaf.leaf.prev
  pub next : x.leaf.next ≡ found.leaf.leaf.next
  pub was : Item
  pub at : slice_get found.leaf.leaf.items x.place ≡ Some was
  pub key_is : was.key ≡ key
  pub enough : place < length was.values
  pub items : x.leaf.items ≡ set found.leaf.leaf.items x.place (record { key = was.key; values = values_with_nth place value was.values })

-- ---- the call

-- ids of pages don't become fewer, and at most so many more; nor do rows become more than so many more
pub record GivesFew {V O : Type 0} (leaves nodes rows : ℕ) (t u : Tree V O) : Type 0 where
  pub leaves_least : t.head.leaf_ids ≤ u.head.leaf_ids
  pub leaves_most : u.head.leaf_ids ≤ t.head.leaf_ids + leaves
  pub nodes_least : t.head.node_ids ≤ u.head.node_ids
  pub nodes_most : u.head.node_ids ≤ t.head.node_ids + nodes
  pub rows_most : u.height ≤ t.height + rows

-- so it is whatever a call answers; and where it was refused the space may not be used any more, or no id is given and no row comes
pub record GivesFewIds {S V O T E : Type 0} (s : Ghosts S) (leaves nodes rows : ℕ) (result : Result T E) (t u : Tree V O) (new : S) : Type 0 where
  pub most : GivesFew leaves nodes rows t u
  pub kept : OnErr result ((s.flag new ≡ false) ⊎ AddsNone t u)

-- the leaf where a key belongs has no room for what is to be made of its pairs
pub record IsCrowdedBy (cmp : List ℕ → List ℕ → Ordering) (key : List ℕ) (f : List Pair → List Pair) {h : TreeHead} {height : ℕ} {m : List ℕ → Option (List ℕ)} (tree : IsTree (before_by cmp) h height m) : Type 0 where
  pub path : List (ℕ × ℕ)
  pub id : ℕ
  pub found : Found (before_by cmp) h.root key tree.leaves tree.levels path id
  pub there : tree.pages id ≡ Some (leaf_page found.leaf.leaf)
  pub items : List Item
  pub are : AreItems cmp items
  pub pairs : items_pairs items ≡ f (items_pairs found.leaf.leaf.items)
  pub over : ItemsWithin h.leaf_limit items → ⊥

-- a node is one of the tree without one of its places, or comes along the way to a leaf that has no room for what is to be made of its pairs
abbrev pub IsSetMore : (cmp : List ℕ → List ℕ → Ordering) → List ℕ → (List Pair → List Pair) → {h : TreeHead} {height : ℕ} {m : List ℕ → Option (List ℕ)} → IsTree (before_by cmp) h height m → Page → Type 0
IsSetMore cmp key f {h} tree (leaf_page l) = ⊤
IsSetMore cmp key f {h} tree (node_page n) = IsLess tree.pages n ⊎ ((c : IsCrowdedBy cmp key f tree) × ClimbsIn h tree.pages c.path c.items n)

module _ {S V O : Type 0} (s : Ghosts S) (R : Stores V S) (o : Orders O) (key : List ℕ) (place : ℕ) (value : Option (List ℕ)) where
  -- of whatever tree was meant: none where there is no such value
  abbrev pub RevaluesLeaf : Tree V O → S → List (ℕ × ℕ) → Option Changed → Type 0
  RevaluesLeaf t space path None = (ps : List Pair) → Means s R o t space ps → has_nth key place ps ≡ false
  RevaluesLeaf t space path (Some x) = (ps : List Pair) (h : Means s R o t space ps) → RevaluesIn o.cmp key place value h.1.is.tree path x

  abbrev pub SetsAt : Bool → Tree V O → Tree V O → S → S → Type 0
  SetsAt there t u old new = TakesOut s (Only (file_in R t)) (Means s R o) (has_nth key place) (valued o.cmp key place value) there t u old new

  -- pages come, at most two leaves, a node in each row and a row, since the leaf where the key belongs has no room for what is to be made of its pairs
  abbrev pub PartsAt : Tree V O → Tree V O → S → Type 0
  PartsAt t u old = Gains 2 t.height 1 t u × ((ps : List Pair) (h : Means s R o t old ps) → IsCrowdedBy o.cmp key (valued o.cmp key place value) h.1.is.tree)

  -- no page comes, or the leaf is parted; each that isn't as it was is one that the change may write; and where a leaf goes, the root has more below it than its heir
  pub record ChangesPages (t u : Tree V O) (old new : S) : Type 0 where
    pub adds : AddsNone t u ⊎ PartsAt t u old
    pub written : WritesPages s R o (valued o.cmp key place value) t u old new
    pub root : LowersRoot s R o t u old new

  -- where there is such a value, a page of the tree before or after
  abbrev pub IsSetPage : (t : Tree V O) (old : S) → Meant s R o t old → Page → Type 0
  IsSetPage t old w p = IsPutPage o.cmp t.head w.1.1.is.tree.pages w.0 (valued o.cmp key place value w.0) p × IsSetMore o.cmp key (valued o.cmp key place value) w.1.1.is.tree p × (has_nth key place w.0 ≡ true)

  -- the file is that of the tree as it was, and tells its numbers; a leaf is to be parted, and fewer ids are left than pages come
  abbrev pub SetsTooMuch : Tree V O → S → S → Type 0
  SetsTooMuch t old new = TellsNumbers s R t old new × ((ps : List Pair) (h : Means s R o t old ps) → (c : IsCrowdedBy o.cmp key (valued o.cmp key place value) h.1.is.tree) × LacksIds t.head h.1.is.tree.pages c.path c.items)

  -- so it is, or the store, which holds the pages of the tree before and such pages alone, has no room for a page of the tree before or after, under an id that has a page or is one of the next, or the undo log is full
  abbrev pub IsSetFull : Tree V O → S → S → Type 0
  IsSetFull t old new = SetsTooMuch t old new ⊎ LacksRoom s R (Meant s R o t old) (λ w i. IsOwn t.head 2 t.height w.1.1.is.tree.pages i) (λ w. w.1.1.is.tree.pages) (IsSetPage t old) t old new
