-- The rules of a tree file. Each is said of what the earlier ones give.
use Rattle.std.specs.Prelude.{◌≡◌, ◌≢◌, ℕ, ◌<◌, ◌≤◌, ◌⊎◌, List, [], ◌∷◌, Bool, true, false, Option, Some, None, ⊤, map, length}
use Rattle.std.specs.List.{AllByRecursion, flat_map}
use Rattle.tc_base.specs.Lists.{pair}
use Rattle.tc_base.specs.declared.seq.Pair.{Pair}
use Rattle.bt_page.specs.declared.page.Item.{Item}
use Rattle.bt_page.specs.declared.page.Leaf.{Leaf}
use Rattle.bt_page.specs.Keys.{node_offset, key_of}
use Rattle.bt_page.specs.Limits.{IsLimit, LeafWithin, NodeWithin}
use Rattle.bt_rows.specs.declared.head.TreeHead.{TreeHead}
use Rattle.bt_rows.specs.Orders.{Before}
use Rattle.bt_rows.specs.declared.page.Page.{Page}
use Rattle.bt_rows.specs.Pages.{Map, PageMap, IsGiven, IsPage}
use Rattle.bt_rows.specs.declared.page.Page.TheVariants.{Leaf as leaf_page, Node as node_page}
use Rattle.bt_rows.specs.declared.page.Slot.{Slot}
use Rattle.bt_rows.specs.declared.page.LeafAt.{LeafAt}
use Rattle.bt_rows.specs.Rows.{root_slot, row, reached, held, HasLeaf, first_id, last_id}

-- B1: the order is known, the limits are in their range, and the ids of leaves and of nodes don't meet
pub record B1 (h : TreeHead) : Type 0 where
  pub order : h.order ≤ 1
  pub leaf_limit : IsLimit h.leaf_limit
  pub node_limit : IsLimit h.node_limit
  pub leaf_ids : h.leaf_ids < node_offset
  pub node_ids : h.node_ids < node_offset

-- `column`
abbrev pub column : List ℕ
column = 99 ∷ 111 ∷ 108 ∷ 117 ∷ 109 ∷ 110 ∷ []

-- a page stands under its key
pub record IsPageAt (h : TreeHead) (key bytes : List ℕ) : Type 0 where
  pub id : ℕ
  pub given : IsGiven h id
  pub key_is : key ≡ key_of id
  pub page : Page
  pub is : IsPage id bytes page

-- B2: nothing but pages is held, and in an index file `column`
abbrev pub B2 : TreeHead → Bool → Map → Type 0
B2 h index m = (key bytes : List ℕ) → m key ≡ Some bytes → IsPageAt h key bytes ⊎ ((index ≡ true) × (key ≡ column))

-- so many rows are all, and name each page that is held once, and nothing else
pub record IsReached (pages : PageMap) (root depth : ℕ) : Type 0 where
  pub ends : row pages depth (root_slot root ∷ []) ≡ []
  pub once : (id : ℕ) → reached pages id depth (root_slot root ∷ []) ≡ held pages id

-- B3: from the root each page is reached exactly once, and each id reached has its page
abbrev pub B3 : PageMap → ℕ → Type 0
B3 pages root = (depth : ℕ) × IsReached pages root depth

-- all leaves have one depth
abbrev pub IsBalanced : PageMap → List Slot → Type 0
IsBalanced pages slots = (i j : ℕ) → HasLeaf pages (row pages i slots) → HasLeaf pages (row pages j slots) → i ≡ j

-- B4
abbrev pub B4 : PageMap → ℕ → Type 0
B4 pages root = IsBalanced pages (root_slot root ∷ [])

-- a leaf is no larger than it may be, and none but the root is empty
pub record LeafLimits (h : TreeHead) (id : ℕ) (l : Leaf) : Type 0 where
  pub within : LeafWithin h.leaf_limit l
  pub some : id ≢ h.root → 0 < length l.items

abbrev pub IsWithin : TreeHead → ℕ → Option Page → Type 0
IsWithin h id None = ⊤
IsWithin h id (Some (leaf_page l)) = LeafLimits h id l
IsWithin h id (Some (node_page n)) = NodeWithin h.node_limit n

-- B5: each page is within its limits
abbrev pub B5 : TreeHead → PageMap → Type 0
B5 h pages = (id : ℕ) → IsWithin h id (pages id)

-- a key against a bound, where none is below all keys
abbrev pub AtLeast : Before → Option (List ℕ) → List ℕ → Type 0
AtLeast before None key = ⊤
AtLeast before (Some b) key = before key b ≡ false

abbrev pub Under : Before → List ℕ → Option (List ℕ) → Type 0
Under before key None = ⊥
Under before key (Some b) = before key b ≡ true

abbrev pub BoundUnder : Before → Option (List ℕ) → Option (List ℕ) → Type 0
BoundUnder before None None = ⊥
BoundUnder before None (Some b) = ⊤
BoundUnder before (Some a) None = ⊥
BoundUnder before (Some a) (Some b) = before a b ≡ true

abbrev pub Ascends : Before → List Item → Type 0
Ascends before [] = ⊤
Ascends before (x ∷ xs) = AllByRecursion (λ y. before x.key y.key ≡ true) xs × Ascends before xs

-- the keys of a leaf ascend and are at least its bound
pub record InLeaf (before : Before) (l : LeafAt) : Type 0 where
  pub ascends : Ascends before l.leaf.items
  pub above : AllByRecursion (λ x. AtLeast before l.slot.bound x.key) l.leaf.items

-- bound and keys of a leaf are under the bound of another
pub record IsBelow (before : Before) (l m : LeafAt) : Type 0 where
  pub bounds : BoundUnder before l.slot.bound m.slot.bound
  pub items : AllByRecursion (λ x. Under before x.key m.slot.bound) l.leaf.items

-- in each leaf, and from each leaf to those behind it
abbrev pub InOrder : Before → List LeafAt → Type 0
InOrder before [] = ⊤
InOrder before (l ∷ ls) = InLeaf before l × AllByRecursion (IsBelow before l) ls × InOrder before ls

-- B6: keys ascend in each leaf, and stay between the bounds of their leaf and of the next
abbrev pub B6 : Before → List LeafAt → Type 0
B6 before leaves = InOrder before leaves

-- previous and next follow the leaves
abbrev pub IsLinked : ℕ → List LeafAt → Type 0
IsLinked prev [] = ⊤
IsLinked prev (l ∷ ls) = (l.leaf.prev ≡ prev) × (l.leaf.next ≡ first_id ls) × IsLinked l.slot.id ls

-- B7: the file's first and last leaf and the links of leaves follow the leaves in order
pub record B7 (h : TreeHead) (leaves : List LeafAt) : Type 0 where
  pub first : h.first ≡ first_id leaves
  pub last : h.last ≡ last_id 0 leaves
  pub links : IsLinked 0 leaves

-- the pairs that leaves stand for, in order
abbrev pub item_pairs : Item → List Pair
item_pairs i = map (pair i.key) i.values

abbrev pub leaf_pairs : LeafAt → List Pair
leaf_pairs l = flat_map item_pairs l.leaf.items

abbrev pub pairs_of : List LeafAt → List Pair
pairs_of leaves = flat_map leaf_pairs leaves

-- B8: the file tells how many they are
abbrev pub B8 : TreeHead → List LeafAt → Type 0
B8 h leaves = h.pairs ≡ length (pairs_of leaves)
