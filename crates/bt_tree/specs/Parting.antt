-- A leaf that is written as several.
use Rattle.std.specs.Prelude.{◌≡◌, ◌⊎◌, ⊤, ℕ, suc, ◌+◌, ◌-◌, ◌<◌, ◌≤◌, List, [], ◌∷◌, ◌++◌, Some, length, map, take, drop, ◌==◌, if◌then◌else◌}
use Rattle.std.specs.List.{AllByRecursion}
use Rattle.tc_space.specs.Frames.{Keeps}
use Rattle.tc_space.specs.Stores.{IsReady, Only}
use Rattle.tc_space.specs.declared.records.Records.{Ghosts as Stores}
use Rattle.tc_space.specs.declared.space.Space.{Ghosts}
use Rattle.bt_page.specs.Keys.{node_offset}
use Rattle.bt_page.specs.Limits.{NodeWithin}
use Rattle.bt_page.specs.declared.page.Item.{Item}
use Rattle.bt_page.specs.declared.page.Leaf.{Leaf}
use Rattle.bt_page.specs.declared.page.Node.{Node}
use Rattle.bt_rows.specs.declared.head.TreeHead.{TreeHead}
use Rattle.bt_rows.specs.declared.page.LeafAt.{LeafAt}
use Rattle.bt_rows.specs.declared.page.Page.{Page}
use Rattle.bt_rows.specs.declared.page.Page.TheVariants.{Leaf as leaf_page, Node as node_page}
use Rattle.bt_rows.specs.declared.page.Slot.{Slot}
use Rattle.bt_rows.specs.Levels.{LeavesHeld}
use Rattle.bt_rows.specs.Pages.{PageMap}
use Rattle.bt_rows.specs.Rows.{first_id, last_id}
use Rattle.bt_cache.specs.Effects.{SameStore}
use Rattle.bt_ways.specs.Changes.{ItemsWithin}
use Rattle.bt_ways.specs.Climbs.{ClimbsWith}
use Rattle.bt_ways.specs.Parts.{AreFresh, HasItems, Part, all_items, first_key, part_entry, parted, relinked, with_parts}
use Rattle.bt_ways.specs.Writes.{put_at}
use Rattle.bt_tree.specs.declared.tree.Tree.{Tree}
use Rattle.bt_tree.specs.declared.parting.Laid.{Laid}
use Rattle.bt_tree.specs.declared.parting.Parted.{Parted}
use Rattle.bt_tree.specs.Climbing.{CanClimb, IsAmong, IsWayOf, LacksNodeIds, ShowsWay, StoodIn, way_most}
use Rattle.bt_tree.specs.Meaning.{file_in}
use Rattle.bt_tree.specs.Paging.{ComesAnew, FillsIds, IsOwn, LacksSeen, Shows, TellsNumbers, Turns}

-- with these leaves at their ids, the last one last
abbrev pub put_laid : List Laid → PageMap → PageMap
put_laid [] pages = pages
put_laid (l ∷ ls) pages = put_laid ls (put_at l.id (leaf_page l.leaf) pages)

-- the page is one of these leaves
abbrev pub IsLaid : List Laid → Page → Type 0
IsLaid [] p = ⊥
IsLaid (l ∷ ls) p = (p ≡ leaf_page l.leaf) ⊎ IsLaid ls p

-- the id is that of one of these leaves
abbrev pub IsLaidId : List Laid → ℕ → Type 0
IsLaidId [] i = ⊥
IsLaidId (l ∷ ls) i = (i ≡ l.id) ⊎ IsLaidId ls i

abbrev pub laid_at : ℕ → ℕ → ℕ → List Item → Laid
laid_at id prev next items = record { id = id; leaf = record { prev = prev; next = next; items = items } }

-- the leaves in the place of one, by their ids
abbrev pub laid_parts : ℕ → ℕ → ℕ → List Item → List Part → List Laid
laid_parts id prev next items [] = laid_at id prev next items ∷ []
laid_parts id prev next items (p ∷ ps) = laid_at id prev p.id items ∷ laid_parts p.id id next p.items ps

abbrev pub last_part : ℕ → List Part → ℕ
last_part id [] = id
last_part id (p ∷ ps) = last_part p.id ps

-- the new leaves of a second and a third part, which may be empty, under the next ids
abbrev pub parts_from : ℕ → List Item → List Item → List Part
parts_from given second [] = record { id = given + 1; items = second } ∷ []
parts_from given second (x ∷ third) = record { id = given + 1; items = second } ∷ record { id = given + 1 + 1; items = x ∷ third } ∷ []

-- the leaves, the entries over the new ones, and the last one's id
pub record ArePartsOf (id prev next : ℕ) (items : List Item) (parts : List Part) (p : Parted) : Type 0 where
  pub leaves : p.leaves ≡ laid_parts id prev next items parts
  pub added : p.added ≡ map part_entry parts
  pub last : p.last ≡ last_part id parts

-- the items of a leaf in front of a place, and those up to a second place under an id, in front of a leaf of this id
abbrev pub AreHalves : ℕ → Leaf → ℕ → ℕ → ℕ → ℕ → Parted → Type 0
AreHalves id leaf i j second next p = ArePartsOf id leaf.prev next (take i leaf.items) (record { id = second; items = take (j - i) (drop i leaf.items) } ∷ []) p

-- the items of a leaf in front of a place, those up to a second place under the next id, and those behind it, if there are any
abbrev pub AreThirds : ℕ → ℕ → Leaf → ℕ → ℕ → Parted → Type 0
AreThirds given id leaf i j p = ArePartsOf id leaf.prev leaf.next (take i leaf.items) (parts_from given (take (j - i) (drop i leaf.items)) (drop j leaf.items)) p

-- so many ids are given with them
abbrev pub third_ids : ℕ → Leaf → ℕ → ℕ → ℕ
third_ids given leaf i j = given + length (parts_from given (take (j - i) (drop i leaf.items)) (drop j leaf.items))

-- a leaf of the items from a place on stands behind two others
pub record IsThird (two : Parted) (leaf : Leaf) (j second third : ℕ) (p : Parted) : Type 0 where
  pub leaves : p.leaves ≡ two.leaves ++ laid_at third second leaf.next (drop j leaf.items) ∷ []
  pub added : p.added ≡ two.added ++ record { child = third; key = first_key (drop j leaf.items) } ∷ []
  pub last : p.last ≡ third

-- the leaf behind, if there is one, has another before it
pub record AddsBehind (next prev : ℕ) (pages : PageMap) (old new : List Laid) : Type 0 where
  pub none : next ≡ 0 → new ≡ old
  pub some : (l : Leaf) → (next ≡ 0 → ⊥) → pages next ≡ Some (leaf_page l) → new ≡ old ++ laid_at next prev l.next l.items ∷ []

-- a leaf stands at an id and, if one is named, behind it, and the noted way may be climbed
pub record AtLeaf (limit root : ℕ) (path : List (ℕ × ℕ)) (id next : ℕ) (pages : PageMap) : Type 0 where
  pub was : Leaf
  pub here : pages id ≡ Some (leaf_page was)
  pub behind : (next ≡ 0 → ⊥) → (l : Leaf) × (pages next ≡ Some (leaf_page l))
  pub way : CanClimb limit pages root path

abbrev pub ShowsLeaf : {S V O : Type 0} → Ghosts S → Stores V S → ℕ → ℕ → Tree V O → S → PageMap → Type 0
ShowsLeaf s R id next t space pages = Shows s R t space pages × AtLeaf t.head.node_limit t.head.root t.path id next pages

-- some of these, one behind the other
abbrev pub IsStretch : {X : Type 0} → List X → List X → Type 0
IsStretch {X} xs ys = (a : List X) × (b : List X) × (ys ≡ a ++ (xs ++ b))

abbrev pub item_key : Item → List ℕ
item_key x = x.key

-- items stand in so many parts beside the first, none of them empty, each within the limit
pub record ArePartedIn (limit : ℕ) (items : List Item) (more : ℕ) : Type 0 where
  pub first : List Item
  pub parts : List Part
  pub whole : items ≡ all_items first parts
  pub some : 0 < length first
  pub have : AllByRecursion HasItems parts
  pub within : ItemsWithin limit first
  pub are_within : AllByRecursion (λ p. ItemsWithin limit p.items) parts
  pub count : more ≡ length parts
  pub few : more ≤ 2

-- parts under the next ids
abbrev pub AreNext : ℕ → List Part → Type 0
AreNext given [] = ⊤
AreNext given (p ∷ ps) = (p.id ≡ given + 1) × AreNext (given + 1) ps

-- a node that comes where items are parted and the entries of the further parts, which have the next ids, climb a way
abbrev pub ClimbsIn : TreeHead → PageMap → List (ℕ × ℕ) → List Item → Node → Type 0
ClimbsIn h pages path items n = (more : ℕ) × (parted_in : ArePartedIn h.leaf_limit items more) × AreNext h.leaf_ids parted_in.parts × IsWayOf h.node_limit (way_most h path) pages h.root path (map part_entry parted_in.parts) n

-- a part of the items that is within the limit, the items of the leaf behind, or a node within the limit, whose keys are those of items or stood in a node, along this way
abbrev pub IsPiece : TreeHead → List (ℕ × ℕ) → List Item → ℕ → PageMap → Page → Type 0
IsPiece h path items next pages (leaf_page l) = (ItemsWithin h.leaf_limit l.items × IsStretch l.items items) ⊎ ((k : Leaf) × (pages next ≡ Some (leaf_page k)) × (l.items ≡ k.items))
IsPiece h path items next pages (node_page n) = NodeWithin h.node_limit n × AllByRecursion (λ e. IsAmong item_key e.key items ⊎ StoodIn pages e.key) n.entries × ClimbsIn h pages path items n

-- items are parted, and fewer ids are left than pages come: of leaves than further parts, or of nodes where so many entries climb this way
pub record LacksIds (h : TreeHead) (pages : PageMap) (path : List (ℕ × ℕ)) (items : List Item) : Type 0 where
  pub more : ℕ
  pub parted_in : ArePartedIn h.leaf_limit items more
  pub used : (node_offset ≤ h.leaf_ids + more) ⊎ LacksNodeIds h pages path more

-- the leaf became several within the limits, whose entries have climbed
pub record IsParted {V O : Type 0} (h : TreeHead) (height : ℕ) (path : List (ℕ × ℕ)) (u : Tree V O) (id : ℕ) (leaf : Leaf) (old new : PageMap) : Type 0 where
  pub items : List Item
  pub parts : List Part
  pub whole : leaf.items ≡ all_items items parts
  pub some : 0 < length items
  pub have : AllByRecursion HasItems parts
  pub within : ItemsWithin h.leaf_limit items
  pub are_within : AllByRecursion (λ p. ItemsWithin h.leaf_limit p.items) parts
  pub fresh : AreFresh old parts
  pub anew : ComesAnew h old new
  pub filled : FillsIds h u.head new
  pub written : (j : ℕ) (p : Page) → new j ≡ Some p → (old j ≡ Some p) ⊎ IsPiece h path leaf.items leaf.next old p
  pub given : AllByRecursion (λ p. 1 ≤ p.id) parts
  pub last : u.head.last ≡ (if leaf.next == 0 then last_part id parts else h.last)
  pub climbs : (s : Slot) (back : List LeafAt) → s.id ≡ id → LeavesHeld old back → leaf.next ≡ first_id back → (leaf.next ≡ 0 → back ≡ [])
      → ClimbsWith h.node_limit (with_parts old (parted s leaf.prev leaf.next items parts) (relinked (last_id 0 (parted s leaf.prev leaf.next items parts)) back)) new
      height u.height h.root u.head.root path (map part_entry parts)

-- whatever it answers: so many ids of nodes are given at most, two of leaves and one row, under another root and another last leaf; all else that is told of the tree stays
pub record Widens {S V O : Type 0} (s : Ghosts S) (R : Stores V S) (nodes : ℕ) (t u : Tree V O) (old new : S) : Type 0 where
  pub keeps : Keeps s old new
  pub made : SameStore R t.store u.store
  pub column : u.column ≡ t.column
  pub head : u.head ≡ record t.head { root = u.head.root; last = u.head.last; leaf_ids = u.head.leaf_ids; node_ids = u.head.node_ids }
  pub leaves_least : t.head.leaf_ids ≤ u.head.leaf_ids
  pub leaves_most : u.head.leaf_ids ≤ t.head.leaf_ids + 2
  pub nodes_least : t.head.node_ids ≤ u.head.node_ids
  pub nodes_most : u.head.node_ids ≤ t.head.node_ids + nodes
  pub rows_least : t.height ≤ u.height
  pub rows_most : u.height ≤ t.height + 1

module _ {S V O : Type 0} (s : Ghosts S) (R : Stores V S) where
  -- these leaves, and behind them the one behind, if there is one, with another before it
  abbrev pub AddsAll : ℕ → ℕ → List Laid → Tree V O → S → List Laid → Type 0
  AddsAll next prev leaves t space all = (pages : PageMap) → Shows s R t space pages → AddsBehind next prev pages leaves all

  -- a leaf may be written as several
  abbrev pub HasLeaf : ℕ → ℕ → Tree V O → S → Type 0
  HasLeaf id next t space = IsReady s (ShowsLeaf s R id next) t space

  abbrev pub TurnsParted : ℕ → Leaf → Tree V O → Tree V O → S → S → Type 0
  TurnsParted id leaf t u old new = Turns s (Only (file_in R t)) (ShowsLeaf s R id leaf.next) (Shows s R) (IsParted t.head t.height t.path u id leaf) t u old new

  -- the store has no room for one of these leaves
  abbrev pub LacksLaid : List Laid → Tree V O → S → S → Type 0
  LacksLaid leaves t old new = LacksSeen s R (Shows s R t old) (λ pages i. IsLaidId leaves i) (λ pages p. IsLaid leaves p) t old new

  -- the store has none for a page of the leaf's items, of the leaf behind, or of a node along the way
  abbrev pub LacksPiece : ℕ → Leaf → Tree V O → S → S → Type 0
  LacksPiece id leaf t old new = LacksSeen s R (ShowsLeaf s R id leaf.next t old) (IsOwn t.head 2 (suc (length t.path))) (IsPiece t.head t.path leaf.items leaf.next) t old new

  -- these items are parted, and fewer ids are left than pages come along the noted way
  abbrev pub LacksId : List Item → Tree V O → S → Type 0
  LacksId items t old = (pages : PageMap) → ShowsWay s R t old pages → LacksIds t.head pages t.path items

  -- the file is that of the tree as it was, and tells its numbers, and ids are used up
  abbrev pub RunsOver : Leaf → Tree V O → S → S → Type 0
  RunsOver leaf t old new = TellsNumbers s R t old new × LacksId leaf.items t old

  -- so it is, or the store lacks room for such a page, or the undo log is full
  abbrev pub LacksPart : ℕ → Leaf → Tree V O → S → S → Type 0
  LacksPart id leaf t old new = RunsOver leaf t old new ⊎ (LacksPiece id leaf t old new ⊎ (s.tells → s.log_full new))
