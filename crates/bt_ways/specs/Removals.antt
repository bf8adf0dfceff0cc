-- What becomes of a tree where a leaf's pairs, the leaf itself or nodes go.
use Rattle.std.specs.Prelude.{◌≡◌, ◌⊎◌, ℕ, zero, suc, ◌+◌, ◌<◌, ◌≤◌, List, [], ◌∷◌, ◌++◌, Option, None, Some, length, ◌==◌, if◌then◌else◌}
use Rattle.std.specs.List.{remove}
use Rattle.bt_page.specs.Limits.{NodeWithin}
use Rattle.bt_page.specs.declared.page.Item.{Item}
use Rattle.bt_page.specs.declared.page.Leaf.{Leaf}
use Rattle.bt_page.specs.declared.page.Node.{Node}
use Rattle.bt_rows.specs.declared.page.LeafAt.{LeafAt}
use Rattle.bt_rows.specs.declared.page.Page.{Page}
use Rattle.bt_rows.specs.declared.page.Page.TheVariants.{Leaf as leaf_page, Node as node_page}
use Rattle.bt_rows.specs.declared.page.Slot.{Slot}
use Rattle.bt_rows.specs.Levels.{NodeAt, Stands}
use Rattle.bt_rows.specs.Orders.{Before, IsOrder}
use Rattle.bt_rows.specs.Pages.{PageMap}
use Rattle.bt_rows.specs.Rows.{root_slot, first_id, last_id}
use Rattle.bt_rows.specs.Rules.{pairs_of}
use Rattle.bt_ways.specs.Climbs.{Climbed, IsHeldWay}
use Rattle.bt_ways.specs.Searches.{child_at}
use Rattle.bt_ways.specs.Ways.{Crumb, Found, back_of, front_of, path_of, rows_of}
use Rattle.bt_ways.specs.Writes.{drop_at, put_at}

-- ---- a place that goes from the rows above it

-- a row without a place: the next one stays as it is, or takes the bound of the one that went
abbrev pub IsWithout : List Slot → Slot → List Slot → List Slot → Type 0
IsWithout front s [] slots = slots ≡ front
IsWithout front s (n ∷ back) slots = (slots ≡ front ++ n ∷ back) ⊎ (slots ≡ front ++ record { bound = s.bound; id = n.id } ∷ back)

-- each page is an old one, or gone, or a node within its limit in the place of a node
abbrev pub OnlyFewer : ℕ → PageMap → PageMap → Type 0
OnlyFewer limit old new = (id : ℕ) → (new id ≡ old id) ⊎ ((new id ≡ None) ⊎ ((n m : Node) × (old id ≡ Some (node_page n)) × (new id ≡ Some (node_page m)) × NodeWithin limit m))

-- wherever this way led, as many rows stand above again, without the place that it led to, if there are others beside it
pub record CutsFrom (limit : ℕ) (old new : PageMap) (root : ℕ) (path : List (ℕ × ℕ)) : Type 0 where
  pub limits : OnlyFewer limit old new
  pub each : (cs : List Crumb) (s : Slot) → path ≡ path_of cs → IsHeldWay old root cs s → 0 < length (front_of cs ++ back_of cs)
      → (rows : List (List NodeAt)) × (slots : List Slot) × Climbed old new 0 0 root (rows_of cs) rows slots × IsWithout (front_of cs) s (back_of cs) slots

-- the node without a place: the first entry's page takes the heir's place, or an entry goes
abbrev pub without_place : ℕ → Node → Node
without_place zero n = record { heir = child_at n.heir n.entries 1; entries = remove n.entries 0 }
without_place (suc i) n = record { heir = n.heir; entries = remove n.entries i }

-- a node has other places
abbrev pub NodeLoses : Type 0
NodeLoses =
    (limit : ℕ) (old : PageMap) (root id place : ℕ) (path : List (ℕ × ℕ)) (n : Node) → old id ≡ Some (node_page n) → 0 < length n.entries → NodeWithin limit (without_place place n)
    → CutsFrom limit old (put_at id (node_page (without_place place n)) old) root ((id, place) ∷ path)

-- a node has this place alone: it goes, and its own place in the row above
abbrev pub NodeGoes : Type 0
NodeGoes =
    (limit : ℕ) (old new : PageMap) (root id place : ℕ) (path : List (ℕ × ℕ)) (n : Node) → old id ≡ Some (node_page n) → n.entries ≡ []
    → CutsFrom limit (drop_at id old) new root path → CutsFrom limit old new root ((id, place) ∷ path)

-- beside the root there is nothing
abbrev pub RootIsAlone : Type 0
RootIsAlone = (limit : ℕ) (pages : PageMap) (root : ℕ) → CutsFrom limit pages pages root []

-- a root with its heir alone gives way to it
abbrev pub RootGivesWay : Type 0
RootGivesWay =
    (before : Before) (pages : PageMap) (root : ℕ) (leaves : List LeafAt) (levels : List (List NodeAt)) (n : Node) → Stands before pages root leaves levels → pages root ≡ Some (node_page n) → n.entries ≡ []
    → (rows : List (List NodeAt)) × Stands before (drop_at root pages) n.heir leaves rows × (length levels ≡ suc (length rows))

-- ---- a leaf that goes

-- a leaf's page with another next one, and with another previous one
abbrev pub page_next : ℕ → Option Page → Option Page
page_next next None = None
page_next next (Some (leaf_page l)) = Some (leaf_page (record { prev = l.prev; next = next; items = l.items }))
page_next next (Some (node_page n)) = Some (node_page n)

abbrev pub page_prev : ℕ → Option Page → Option Page
page_prev prev None = None
page_prev prev (Some (leaf_page l)) = Some (leaf_page (record { prev = prev; next = l.next; items = l.items }))
page_prev prev (Some (node_page n)) = Some (node_page n)

-- the pages with another link in one of them
abbrev pub with_next : ℕ → ℕ → PageMap → PageMap
with_next id next pages = λ other. if other == id then page_next next (pages other) else pages other

abbrev pub with_prev : ℕ → ℕ → PageMap → PageMap
with_prev id prev pages = λ other. if other == id then page_prev prev (pages other) else pages other

-- the pages without a leaf: first its neighbours are linked with each other
abbrev pub without_leaf : ℕ → Leaf → PageMap → PageMap
without_leaf id l pages = drop_at id (with_prev l.next l.prev (with_next l.prev l.next pages))

-- no leaf stands beside it
abbrev pub IsAlone : Leaf → Type 0
IsAlone l = (l.prev ≡ 0) × (l.next ≡ 0)

-- a leaf, linked as it was, with other items
abbrev pub with_items : LeafAt → List Item → LeafAt
with_items l items = record { slot = l.slot; leaf = record { prev = l.leaf.prev; next = l.leaf.next; items = items } }

-- leaves after one of them went
pub record LeavesAfter (leaves front : List LeafAt) (leaf : LeafAt) (back after : List LeafAt) : Type 0 where
  pub pairs : pairs_of after ≡ pairs_of (front ++ with_items leaf [] ∷ back)
  pub first : first_id after ≡ (if leaf.leaf.prev == 0 then leaf.leaf.next else first_id leaves)
  pub last : last_id 0 after ≡ (if leaf.leaf.next == 0 then leaf.leaf.prev else last_id 0 leaves)

-- the leaf where a key belongs is taken out, and its place from the rows above
abbrev pub LeafGoes : Type 0
LeafGoes =
    (before : Before) → IsOrder before → (limit : ℕ) (old new : PageMap) (root : ℕ) (key : List ℕ) (leaves : List LeafAt) (levels : List (List NodeAt)) (path : List (ℕ × ℕ)) (id : ℕ)
    → Stands before old root leaves levels → (f : Found before root key leaves levels path id) → old 0 ≡ None → (IsAlone f.leaf.leaf → ⊥) → CutsFrom limit (without_leaf id f.leaf.leaf old) new root path
    → (after : List LeafAt) × (rows : List (List NodeAt)) × Stands before new root after rows × (length rows ≡ length levels) × LeavesAfter leaves f.front f.leaf f.back after

-- ---- the only leaf

-- the pages without the nodes on a way
abbrev pub without_way : List (ℕ × ℕ) → PageMap → PageMap
without_way [] pages = pages
without_way (step ∷ path) pages = without_way path (drop_at step.0 pages)

abbrev pub no_items : Leaf
no_items = record { prev = 0; next = 0; items = [] }

-- where it is the only one, it is the root, empty
abbrev pub OnlyLeafEmpties : Type 0
OnlyLeafEmpties =
    (before : Before) (pages : PageMap) (root : ℕ) (key : List ℕ) (leaves : List LeafAt) (levels : List (List NodeAt)) (path : List (ℕ × ℕ)) (id : ℕ) → Stands before pages root leaves levels → (f : Found before root key leaves levels path id)
    → pages 0 ≡ None → IsAlone f.leaf.leaf → Stands before (put_at id (leaf_page no_items) (without_way path pages)) id (record { slot = root_slot id; leaf = no_items } ∷ []) []
