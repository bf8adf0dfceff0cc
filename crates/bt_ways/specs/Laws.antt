-- What writing pages along a way makes of a tree.
use Rattle.std.specs.Prelude.{◌≡◌, ◌≢◌, ℕ, suc, ◌+◌, ◌<◌, ◌≤◌, List, [], ◌∷◌, ◌++◌, None, Some, length, map, take, drop}
use Rattle.std.specs.List.{AllByRecursion}
use Rattle.bt_page.specs.Limits.{NodeWithin}
use Rattle.bt_page.specs.declared.page.NodeEntry.{NodeEntry}
use Rattle.bt_page.specs.declared.page.Item.{Item}
use Rattle.bt_page.specs.declared.page.Node.{Node}
use Rattle.bt_rows.specs.declared.page.LeafAt.{LeafAt}
use Rattle.bt_rows.specs.declared.page.Page.TheVariants.{Leaf as leaf_page, Node as node_page}
use Rattle.bt_rows.specs.Levels.{NodeAt, Stands}
use Rattle.bt_rows.specs.Orders.{Before, IsOrder}
use Rattle.bt_rows.specs.Pages.{PageMap}
use Rattle.bt_rows.specs.Rows.{last_id}
use Rattle.bt_rows.specs.Rules.{InOrder}
use Rattle.bt_ways.specs.Climbs.{ClimbsWith, OnlyNodes}
use Rattle.bt_ways.specs.Parts.{AreFresh, HasItems, Part, all_items, part_entry, parted, relinked, with_parts}
use Rattle.bt_ways.specs.Ways.{Found}
use Rattle.bt_ways.specs.Writes.{put_at}

-- ---- entries that climb

-- a new root over the old one
abbrev pub RootGrows : Type 0
RootGrows =
    (limit : ℕ) (old : PageMap) (height root id : ℕ) (added : List NodeEntry) → old id ≡ None → length added ≤ limit
    → ClimbsWith limit old (put_at id (node_page (record { heir = root; entries = added })) old) height (suc height) root id [] added

-- entries put in behind so many
abbrev pub spliced : List NodeEntry → ℕ → List NodeEntry → List NodeEntry
spliced entries place added = take place entries ++ (added ++ drop place entries)

-- a node takes the entries
abbrev pub NodeTakes : Type 0
NodeTakes =
    (limit : ℕ) (old : PageMap) (height root id place : ℕ) (path : List (ℕ × ℕ)) (n : Node) (added : List NodeEntry) → old id ≡ Some (node_page n) → length (spliced n.entries place added) ≤ limit
    → ClimbsWith limit old (put_at id (node_page (record { heir = n.heir; entries = spliced n.entries place added })) old) height height root root ((id, place) ∷ path) added

-- a node is cut in two around an entry, which goes on up under the id of the second
abbrev pub NodeParts : Type 0
NodeParts =
    (limit : ℕ) (old new : PageMap) (height height' root root' id place second : ℕ) (path : List (ℕ × ℕ)) (n : Node) (added front back : List NodeEntry) (up : NodeEntry)
    → old id ≡ Some (node_page n) → old second ≡ None → spliced n.entries place added ≡ front ++ up ∷ back → length front ≤ limit → length back ≤ limit
    → ClimbsWith limit (put_at id (node_page (record { heir = n.heir; entries = front })) (put_at second (node_page (record { heir = up.child; entries = back })) old)) new height height' root root' path
    (record { child = second; key = up.key } ∷ [])
    → ClimbsWith limit old new height height' root root' ((id, place) ∷ path) added

-- ---- leaves

-- other items in the leaf where a key belongs
abbrev pub LeafChanges : Type 0
LeafChanges =
    (before : Before) (pages : PageMap) (root : ℕ) (key : List ℕ) (leaves : List LeafAt) (levels : List (List NodeAt)) (path : List (ℕ × ℕ)) (id : ℕ) → Stands before pages root leaves levels → (f : Found before root key leaves levels path id) (items : List Item)
    → InOrder before (f.front ++ record { slot = f.leaf.slot; leaf = record { prev = f.leaf.leaf.prev; next = f.leaf.leaf.next; items = items } } ∷ f.back)
    → Stands before (put_at id (leaf_page (record { prev = f.leaf.leaf.prev; next = f.leaf.leaf.next; items = items })) pages) root
    (f.front ++ record { slot = f.leaf.slot; leaf = record { prev = f.leaf.leaf.prev; next = f.leaf.leaf.next; items = items } } ∷ f.back) levels

-- the leaves of a tree once the items of one are parted
abbrev pub parted_leaves : List LeafAt → LeafAt → List LeafAt → List Item → List Part → List LeafAt
parted_leaves front leaf back items parts =
    let laid = parted leaf.slot leaf.leaf.prev leaf.leaf.next items parts in front ++ (laid ++ relinked (last_id 0 laid) back)

-- the leaf where a key belongs becomes several, whose entries have climbed
abbrev pub LeafParts : Type 0
LeafParts =
    (before : Before) → IsOrder before → (limit : ℕ) (old new : PageMap) (height' root root' : ℕ) (key : List ℕ) (leaves : List LeafAt) (levels : List (List NodeAt)) (path : List (ℕ × ℕ)) (id : ℕ)
    → Stands before old root leaves levels → (f : Found before root key leaves levels path id) (items : List Item) (parts : List Part)
    → 0 < length items → AllByRecursion HasItems parts → AreFresh old parts
    → InOrder before (f.front ++ record { slot = f.leaf.slot; leaf = record { prev = f.leaf.leaf.prev; next = f.leaf.leaf.next; items = all_items items parts } } ∷ f.back)
    → ClimbsWith limit (with_parts old (parted f.leaf.slot f.leaf.leaf.prev f.leaf.leaf.next items parts) (relinked (last_id 0 (parted f.leaf.slot f.leaf.leaf.prev f.leaf.leaf.next items parts)) f.back)) new (suc (length levels)) height' root root' path (map part_entry parts)
    → (rows : List (List NodeAt)) × Stands before new root' (parted_leaves f.front f.leaf f.back items parts) rows × (height' ≡ suc (length rows))
