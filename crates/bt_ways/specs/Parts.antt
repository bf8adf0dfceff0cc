-- A leaf whose items are parted among several.
use Rattle.std.specs.Prelude.{◌≡◌, ℕ, ◌<◌, List, [], ◌∷◌, ◌++◌, Option, None, Some, length, take}
use Rattle.std.specs.List.{AllByRecursion}
use Rattle.bt_page.specs.declared.page.NodeEntry.{NodeEntry}
use Rattle.bt_page.specs.declared.page.Item.{Item}
use Rattle.bt_page.specs.declared.page.Leaf.{Leaf}
use Rattle.bt_rows.specs.declared.page.LeafAt.{LeafAt}
use Rattle.bt_rows.specs.declared.page.Slot.{Slot}
use Rattle.bt_rows.specs.Pages.{PageMap}
use Rattle.bt_rows.specs.Rows.{last_id}
use Rattle.bt_ways.specs.Writes.{put_leaves}

-- the items of a new leaf, and its id
pub record Part : Type 0 where
  pub id : ℕ
  pub items : List Item

abbrev pub first_key : List Item → List ℕ
first_key [] = []
first_key (x ∷ xs) = x.key

abbrev pub part_slot : Part → Slot
part_slot p = record { bound = Some (first_key p.items); id = p.id }

-- the entry that names a new leaf: its first key is the least that may stand there
abbrev pub part_entry : Part → NodeEntry
part_entry p = record { child = p.id; key = first_key p.items }

abbrev pub all_items : List Item → List Part → List Item
all_items items [] = items
all_items items (p ∷ ps) = items ++ all_items p.items ps

-- the leaves that stand in the place of one: the first is where it was, each further one behind, linked in a row
abbrev pub parted : Slot → ℕ → ℕ → List Item → List Part → List LeafAt
parted s prev next items [] = record { slot = s; leaf = record { prev = prev; next = next; items = items } } ∷ []
parted s prev next items (p ∷ ps) = record { slot = s; leaf = record { prev = prev; next = p.id; items = items } } ∷ parted (part_slot p) s.id next p.items ps

-- the leaves behind, of which the first has another before it
abbrev pub relinked : ℕ → List LeafAt → List LeafAt
relinked prev [] = []
relinked prev (l ∷ ls) = record { slot = l.slot; leaf = record { prev = prev; next = l.leaf.next; items = l.leaf.items } } ∷ ls

-- the pages once these leaves are written, and the one behind them
abbrev pub with_parts : PageMap → List LeafAt → List LeafAt → PageMap
with_parts pages laid back = put_leaves (laid ++ take 1 back) pages

abbrev pub HasItems : Part → Type 0
HasItems p = 0 < length p.items

-- ids that no page has, and no two parts
abbrev pub AreFresh : PageMap → List Part → Type 0
AreFresh pages [] = Unit {0}
AreFresh pages (p ∷ ps) = (pages p.id ≡ None) × AllByRecursion (λ q. p.id ≡ q.id → ⊥) ps × AreFresh pages ps
