-- The way from the root of a tree to a place in one of its rows.
use Rattle.std.specs.Prelude.{◌≡◌, ℕ, List, [], ◌∷◌, ◌++◌, Option, None, Some, ⊤, map, length}
use Rattle.bt_rows.specs.declared.page.LeafAt.{LeafAt}
use Rattle.bt_rows.specs.declared.page.Slot.{Slot}
use Rattle.bt_rows.specs.Orders.{Before}
use Rattle.bt_rows.specs.Rows.{root_slot, children_of}
use Rattle.bt_rows.specs.Rules.{AtLeast, Under}
use Rattle.bt_rows.specs.Levels.{NodeAt, leaf_slot, node_slot, all_children}

-- the places below a node
abbrev pub node_children : NodeAt → List Slot
node_children n = children_of n.slot.bound n.node

-- a node on the way, with the rest of its row, and with the places below it on both sides of the way
pub record Crumb : Type 0 where
  pub left : List NodeAt
  pub node : NodeAt
  pub right : List NodeAt
  pub a : List Slot
  pub b : List Slot

abbrev pub row_of : Crumb → List NodeAt
row_of c = c.left ++ c.node ∷ c.right

abbrev pub rows_of : List Crumb → List (List NodeAt)
rows_of cs = map row_of cs

-- the places of a row on both sides of the way
abbrev pub front_of : List Crumb → List Slot
front_of [] = []
front_of (c ∷ cs) = all_children c.left ++ c.a

abbrev pub back_of : List Crumb → List Slot
back_of [] = []
back_of (c ∷ cs) = c.b ++ all_children c.right

-- the way, lowest node first, leads from the root to this place
abbrev pub Leads : ℕ → List Crumb → Slot → Type 0
Leads root [] s = s ≡ root_slot root
Leads root (c ∷ cs) s = (node_children c.node ≡ c.a ++ s ∷ c.b) × (map node_slot c.left ≡ front_of cs) × (map node_slot c.right ≡ back_of cs) × Leads root cs c.node.slot

-- the node's id, and which of the places below it was taken
abbrev pub step_of : Crumb → ℕ × ℕ
step_of c = (c.node.slot.id, length c.a)

abbrev pub path_of : List Crumb → List (ℕ × ℕ)
path_of cs = map step_of cs

-- the first of these places, if there is one, is above the key
abbrev pub IsBehind : Before → List ℕ → List Slot → Type 0
IsBehind before key [] = ⊤
IsBehind before key (s ∷ ss) = Under before key s.bound

-- the leaf where a key belongs, and the way to it
pub record Found (before : Before) (root : ℕ) (key : List ℕ) (leaves : List LeafAt) (levels : List (List NodeAt)) (path : List (ℕ × ℕ)) (id : ℕ) : Type 0 where
  pub crumbs : List Crumb
  pub front : List LeafAt
  pub leaf : LeafAt
  pub back : List LeafAt
  pub is : leaf.slot.id ≡ id
  pub along : path ≡ path_of crumbs
  pub leads : Leads root crumbs leaf.slot
  pub whole : rows_of crumbs ≡ levels
  pub parts : leaves ≡ front ++ leaf ∷ back
  pub in_front : map leaf_slot front ≡ front_of crumbs
  pub behind : map leaf_slot back ≡ back_of crumbs
  pub low : AtLeast before leaf.slot.bound key
  pub high : IsBehind before key (map leaf_slot back)
