-- The rows of a tree, from the root down.
use Rattle.std.specs.Prelude.{ℕ, zero, suc, ◌+◌, ◌<◌, List, [], ◌∷◌, ◌++◌, Option, Some, None, map, length, is_some, ◌==◌, if◌then◌else◌}
use Rattle.bt_page.specs.declared.page.NodeEntry.{NodeEntry}
use Rattle.bt_page.specs.declared.page.Node.{Node}
use Rattle.bt_rows.specs.declared.page.LeafAt.{LeafAt}
use Rattle.bt_rows.specs.declared.page.Page.{Page}
use Rattle.bt_rows.specs.declared.page.Slot.{Slot}
use Rattle.bt_rows.specs.Pages.{PageMap}
use Rattle.bt_rows.specs.declared.page.Page.TheVariants.{Leaf as leaf_page, Node as node_page}

-- above all others, with no bound
abbrev pub root_slot : ℕ → Slot
root_slot id = record { bound = None; id = id }

-- a page under an entry has its key as bound
abbrev pub entry_slot : NodeEntry → Slot
entry_slot e = record { bound = Some e.key; id = e.child }

-- the pages below a node, in order; the heir has the bound of its node
abbrev pub children_of : Option (List ℕ) → Node → List Slot
children_of bound n = record { bound = bound; id = n.heir } ∷ map entry_slot n.entries

-- those below a place, none where no node stands there
abbrev pub children_at : Slot → Option Page → List Slot
children_at s None = []
children_at s (Some (leaf_page l)) = []
children_at s (Some (node_page n)) = children_of s.bound n

-- the leaf at a place, if one stands there
abbrev pub leaf_at : Slot → Option Page → List LeafAt
leaf_at s None = []
leaf_at s (Some (leaf_page l)) = record { slot = s; leaf = l } ∷ []
leaf_at s (Some (node_page n)) = []

-- the row below a row
abbrev pub next_row : PageMap → List Slot → List Slot
next_row pages [] = []
next_row pages (s ∷ ss) = children_at s (pages s.id) ++ next_row pages ss

-- the leaves of a row
abbrev pub leaves_among : PageMap → List Slot → List LeafAt
leaves_among pages [] = []
leaves_among pages (s ∷ ss) = leaf_at s (pages s.id) ++ leaves_among pages ss

-- the row so many below a row
abbrev pub row : PageMap → ℕ → List Slot → List Slot
row pages zero slots = slots
row pages (suc k) slots = row pages k (next_row pages slots)

-- the leaves of so many rows from a row on
abbrev pub leaves_in : PageMap → ℕ → List Slot → List LeafAt
leaves_in pages zero slots = []
leaves_in pages (suc k) slots = leaves_among pages slots ++ leaves_in pages k (next_row pages slots)

-- how often a row names a page
abbrev pub times : ℕ → List Slot → ℕ
times id [] = 0
times id (s ∷ ss) = (if s.id == id then 1 else 0) + times id ss

-- how often so many rows from a row on do
abbrev pub reached : PageMap → ℕ → ℕ → List Slot → ℕ
reached pages id zero slots = 0
reached pages id (suc k) slots = times id slots + reached pages id k (next_row pages slots)

-- 1 where the page is held
abbrev pub held : PageMap → ℕ → ℕ
held pages id = if is_some (pages id) then 1 else 0

abbrev pub HasLeaf : PageMap → List Slot → Type 0
HasLeaf pages slots = 0 < length (leaves_among pages slots)

-- 0 where there is no leaf
abbrev pub first_id : List LeafAt → ℕ
first_id [] = 0
first_id (l ∷ ls) = l.slot.id

abbrev pub last_id : ℕ → List LeafAt → ℕ
last_id prev [] = prev
last_id prev (l ∷ ls) = last_id l.slot.id ls
