-- A tree as its operations see it: the leaves in order, and above them rows of nodes, each of which names the row below.
use Rattle.std.specs.Prelude.{◌≡◌, ℕ, ◌+◌, List, [], ◌∷◌, ◌++◌, Some, ⊤, map}
use Rattle.bt_page.specs.declared.page.Node.{Node}
use Rattle.bt_rows.specs.Orders.{Before}
use Rattle.bt_rows.specs.Pages.{PageMap}
use Rattle.bt_rows.specs.declared.page.Page.TheVariants.{Leaf as leaf_page, Node as node_page}
use Rattle.bt_rows.specs.declared.page.Slot.{Slot}
use Rattle.bt_rows.specs.declared.page.LeafAt.{LeafAt}
use Rattle.bt_rows.specs.Rows.{root_slot, children_of, times, held}
use Rattle.bt_rows.specs.Rules.{InOrder, IsLinked}

pub record NodeAt : Type 0 where
  pub slot : Slot
  pub node : Node

abbrev pub leaf_slot : LeafAt → Slot
leaf_slot l = l.slot

abbrev pub node_slot : NodeAt → Slot
node_slot n = n.slot

-- the places below a row of nodes
abbrev pub all_children : List NodeAt → List Slot
all_children [] = []
all_children (n ∷ ns) = children_of n.slot.bound n.node ++ all_children ns

-- the rows above these places, lowest first, end in the root
abbrev pub LeadsUp : ℕ → List (List NodeAt) → List Slot → Type 0
LeadsUp root [] slots = slots ≡ root_slot root ∷ []
LeadsUp root (L ∷ Ls) slots = (slots ≡ all_children L) × LeadsUp root Ls (map node_slot L)

-- the rows from these places down, highest first, end in the bottom row
abbrev pub LeadsDown : List (List NodeAt) → List Slot → List Slot → Type 0
LeadsDown [] slots bottom = slots ≡ bottom
LeadsDown (L ∷ Ls) slots bottom = (map node_slot L ≡ slots) × LeadsDown Ls (all_children L) bottom

-- how often these rows name a page
abbrev pub level_times : ℕ → List (List NodeAt) → ℕ
level_times id [] = 0
level_times id (L ∷ Ls) = times id (map node_slot L) + level_times id Ls

abbrev pub NodesHeld : PageMap → List NodeAt → Type 0
NodesHeld pages [] = ⊤
NodesHeld pages (n ∷ ns) = (pages n.slot.id ≡ Some (node_page n.node)) × NodesHeld pages ns

abbrev pub LevelsHeld : PageMap → List (List NodeAt) → Type 0
LevelsHeld pages [] = ⊤
LevelsHeld pages (L ∷ Ls) = NodesHeld pages L × LevelsHeld pages Ls

abbrev pub LeavesHeld : PageMap → List LeafAt → Type 0
LeavesHeld pages [] = ⊤
LeavesHeld pages (l ∷ ls) = (pages l.slot.id ≡ Some (leaf_page l.leaf)) × LeavesHeld pages ls

-- the pages are a tree of these leaves and rows of nodes under this root
pub record Stands (before : Before) (pages : PageMap) (root : ℕ) (leaves : List LeafAt) (levels : List (List NodeAt)) : Type 0 where
  pub up : LeadsUp root levels (map leaf_slot leaves)
  pub leaves_held : LeavesHeld pages leaves
  pub nodes_held : LevelsHeld pages levels
  pub once : (id : ℕ) → times id (map leaf_slot leaves) + level_times id levels ≡ held pages id
  pub order : InOrder before leaves
  pub links : IsLinked 0 leaves
