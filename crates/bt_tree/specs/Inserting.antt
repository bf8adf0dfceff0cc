-- A pair that comes into a tree.
use Rattle.std.specs.Prelude.{◌≡◌, ◌⊎◌, ⊤, ℕ, ◌+◌, ◌≤◌, List, Bool, false, Option, Some, Result, OnErr}
use Rattle.std.specs.declared.cmp.Ordering.{Ordering}
use Rattle.std.specs.List.{AllByRecursion}
use Rattle.tc_base.specs.declared.order.Order.{Ghosts as Orders}
use Rattle.tc_base.specs.declared.seq.Pair.{Pair}
use Rattle.tc_space.specs.declared.records.Records.{Ghosts as Stores}
use Rattle.tc_space.specs.declared.space.Space.{Ghosts}
use Rattle.bt_page.specs.Limits.{LeafWithin, NodeWithin}
use Rattle.bt_page.specs.declared.page.Item.{Item}
use Rattle.bt_rows.specs.declared.head.TreeHead.{TreeHead}
use Rattle.bt_rows.specs.declared.page.Page.{Page}
use Rattle.bt_rows.specs.declared.page.Page.TheVariants.{Leaf as leaf_page, Node as node_page}
use Rattle.bt_rows.specs.Orders.{before_by}
use Rattle.bt_rows.specs.Pages.{PageMap}
use Rattle.bt_cache.specs.Effects.{SameStore}
use Rattle.bt_ways.specs.Changes.{AreItems, IsChanged, ItemsWithin, inserted, items_pairs}
use Rattle.bt_ways.specs.Ways.{Found}
use Rattle.bt_tree.specs.declared.inserting.Changed.{Changed}
use Rattle.bt_tree.specs.declared.tree.Tree.{Tree}
use Rattle.bt_tree.specs.Climbing.{IsAmong, StoodIn}
use Rattle.bt_tree.specs.Meaning.{Changes, Means, Meant}
use Rattle.bt_tree.specs.Parting.{ClimbsIn, IsStretch, LacksIds}
use Rattle.bt_tree.specs.Paging.{ComesAnew, FillsIds, IsOwn, LacksRoom, Shows, TellsNumbers}
use Rattle.bt_tree.specs.Trees.{IsTree}

-- in the leaf where a key belongs a pair came in; the leaf isn't written yet
pub record TakesPair (cmp : List ℕ → List ℕ → Ordering) (last : Bool) (key value : List ℕ) {h : TreeHead} {height : ℕ} {m : List ℕ → Option (List ℕ)} (tree : IsTree (before_by cmp) h height m) (path : List (ℕ × ℕ)) (x : Changed) : Type 0 where
  pub found : Found (before_by cmp) h.root key tree.leaves tree.levels path x.id
  pub prev : x.leaf.prev ≡ found.leaf.leaf.prev
  pub next : x.leaf.next ≡ found.leaf.leaf.next
  pub changed : IsChanged cmp last key value found.leaf.leaf.items x.leaf.items x.place x.grown

-- whatever it answers, what the tree was made with stays
pub record StaysMade {S V O : Type 0} (R : Stores V S) (t u : Tree V O) : Type 0 where
  pub made : SameStore R t.store u.store
  pub column : u.column ≡ t.column
  pub order : u.head.order ≡ t.head.order
  pub leaf_limit : u.head.leaf_limit ≡ t.head.leaf_limit
  pub node_limit : u.head.node_limit ≡ t.head.node_limit

-- ids of pages and rows don't become fewer, and at most so many more
pub record Gains {V O : Type 0} (leaves nodes rows : ℕ) (t u : Tree V O) : Type 0 where
  pub leaves_least : t.head.leaf_ids ≤ u.head.leaf_ids
  pub leaves_most : u.head.leaf_ids ≤ t.head.leaf_ids + leaves
  pub nodes_least : t.head.node_ids ≤ u.head.node_ids
  pub nodes_most : u.head.node_ids ≤ t.head.node_ids + nodes
  pub rows_least : t.height ≤ u.height
  pub rows_most : u.height ≤ t.height + rows

-- so it is whatever a call answers; and where it was refused the space may not be used any more, or no number and no row is another
pub record GivesIds {S V O T E : Type 0} (s : Ghosts S) (leaves nodes rows : ℕ) (result : Result T E) (t u : Tree V O) (new : S) : Type 0 where
  pub most : Gains leaves nodes rows t u
  pub kept : OnErr result ((s.flag new ≡ false) ⊎ ((u.head ≡ t.head) × (u.height ≡ t.height)))

-- the leaf where the key belongs, under the id where the way leads, has no room for the pair
pub record IsCrowded (cmp : List ℕ → List ℕ → Ordering) (last : Bool) (key value : List ℕ) {h : TreeHead} {height : ℕ} {m : List ℕ → Option (List ℕ)} (tree : IsTree (before_by cmp) h height m) : Type 0 where
  pub path : List (ℕ × ℕ)
  pub id : ℕ
  pub found : Found (before_by cmp) h.root key tree.leaves tree.levels path id
  pub there : tree.pages id ≡ Some (leaf_page found.leaf.leaf)
  pub items : List Item
  pub are : AreItems cmp items
  pub pairs : items_pairs items ≡ inserted cmp last key value (items_pairs found.leaf.leaf.items)
  pub over : ItemsWithin h.leaf_limit items → ⊥

-- and fewer ids are left than pages come where it is parted
abbrev pub RunsOut : (cmp : List ℕ → List ℕ → Ordering) → Bool → List ℕ → List ℕ → {h : TreeHead} {height : ℕ} {m : List ℕ → Option (List ℕ)} → IsTree (before_by cmp) h height m → Type 0
RunsOut cmp last key value {h} tree = (c : IsCrowded cmp last key value tree) × LacksIds h tree.pages c.path c.items

-- a node is one that comes where that leaf is parted: a section of a node of the way, with entries put in
abbrev pub IsMorePage : (cmp : List ℕ → List ℕ → Ordering) → Bool → List ℕ → List ℕ → {h : TreeHead} {height : ℕ} {m : List ℕ → Option (List ℕ)} → IsTree (before_by cmp) h height m → Page → Type 0
IsMorePage cmp last key value {h} tree (leaf_page l) = ⊤
IsMorePage cmp last key value {h} tree (node_page n) = (c : IsCrowded cmp last key value tree) × ClimbsIn h tree.pages c.path c.items n

-- some of the items of these pairs, one behind the other
pub record AreItemsOf (cmp : List ℕ → List ℕ → Ordering) (items : List Item) (ps : List Pair) : Type 0 where
  pub all : List Item
  pub are : AreItems cmp all
  pub pairs : ps ≡ items_pairs all
  pub some : IsStretch items all

-- a page of the tree before or after: a leaf within the limit of some of its items, or a node within its limit
abbrev pub IsTreePage : (List ℕ → List ℕ → Ordering) → TreeHead → List Pair → List Pair → Page → Type 0
IsTreePage cmp h ps qs (leaf_page l) = LeafWithin h.leaf_limit l × (AreItemsOf cmp l.items ps ⊎ AreItemsOf cmp l.items qs)
IsTreePage cmp h ps qs (node_page n) = NodeWithin h.node_limit n

abbrev pub pair_key : Pair → List ℕ
pair_key p = p.key

-- the keys of a node are held afterwards, or stood in a node before
abbrev pub HasKnownKeys : PageMap → List Pair → Page → Type 0
HasKnownKeys pages qs (leaf_page l) = ⊤
HasKnownKeys pages qs (node_page n) = AllByRecursion (λ e. IsAmong pair_key e.key qs ⊎ StoodIn pages e.key) n.entries

-- a page that a put writes
abbrev pub IsPutPage : (List ℕ → List ℕ → Ordering) → TreeHead → PageMap → List Pair → List Pair → Page → Type 0
IsPutPage cmp h pages ps qs p = IsTreePage cmp h ps qs p × HasKnownKeys pages qs p

-- each page that comes into a tree has an id that wasn't given before
abbrev pub AddsAnew : {S V O : Type 0} → Ghosts S → Stores V S → Orders O → Tree V O → Tree V O → S → S → Type 0
AddsAnew s R o t u old new = (ps : List Pair) (h : Means s R o t old ps) → (pages : PageMap) × Shows s R u new pages × ComesAnew t.head h.1.is.tree.pages pages

-- besides, each id that was given has a page, and each page that isn't as it was is one that a change of the pairs to these may write
abbrev pub WritesPages : {S V O : Type 0} → Ghosts S → Stores V S → Orders O → (List Pair → List Pair) → Tree V O → Tree V O → S → S → Type 0
WritesPages s R o f t u old new = (ps : List Pair) (h : Means s R o t old ps) → (pages : PageMap) × Shows s R u new pages × ComesAnew t.head h.1.is.tree.pages pages × FillsIds t.head u.head pages
    × ((id : ℕ) (p : Page) → pages id ≡ Some p → (h.1.is.tree.pages id ≡ Some p) ⊎ IsPutPage o.cmp t.head h.1.is.tree.pages ps (f ps) p)

module _ {S V O : Type 0} (s : Ghosts S) (R : Stores V S) (o : Orders O) (last : Bool) (key value : List ℕ) where
  -- in the leaf that was read of a tree a pair came in
  abbrev pub TakesInLeaf : Tree V O → S → List (ℕ × ℕ) → Changed → Type 0
  TakesInLeaf t space path x = (ps : List Pair) (h : Means s R o t space ps) → TakesPair o.cmp last key value h.1.is.tree path x

  abbrev pub Inserts : Tree V O → Tree V O → S → S → Type 0
  Inserts t u old new = Changes s R o (inserted o.cmp last key value) t u old new

  -- pages come, at most two leaves, a node in each row and a row, since the leaf where the key belongs has no room
  abbrev pub PartsLeaf : Tree V O → Tree V O → S → Type 0
  PartsLeaf t u old = Gains 2 t.height 1 t u × ((ps : List Pair) (h : Means s R o t old ps) → IsCrowded o.cmp last key value h.1.is.tree)

  -- no page comes, or the leaf is parted
  abbrev pub AddsPages : Tree V O → Tree V O → S → Type 0
  AddsPages t u old = Gains 0 0 0 t u ⊎ PartsLeaf t u old

  -- a page that a put into this tree writes; a node comes along the way to a leaf that has no room
  abbrev pub IsWritten : (t : Tree V O) (old : S) → Meant s R o t old → Page → Type 0
  IsWritten t old w p = IsPutPage o.cmp t.head w.1.1.is.tree.pages w.0 (inserted o.cmp last key value w.0) p × IsMorePage o.cmp last key value w.1.1.is.tree p

  -- the file is that of the tree as it was, and tells its numbers; a leaf is to be parted, and fewer ids are left than pages come
  abbrev pub UsesUp : Tree V O → S → S → Type 0
  UsesUp t old new = TellsNumbers s R t old new × ((ps : List Pair) (h : Means s R o t old ps) → RunsOut o.cmp last key value h.1.is.tree)

  -- so it is, or the store, which holds the pages of the tree before and such pages alone, has no room for a page of the tree before or after, under an id that has a page or is one of the next, or the undo
  -- log is full
  abbrev pub IsFull : Tree V O → S → S → Type 0
  IsFull t old new = UsesUp t old new ⊎ LacksRoom s R (Meant s R o t old) (λ w i. IsOwn t.head 2 t.height w.1.1.is.tree.pages i) (λ w. w.1.1.is.tree.pages) (IsWritten t old) t old new
