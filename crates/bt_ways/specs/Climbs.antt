-- What becomes of the rows above a place where places are added behind it.
use Rattle.std.specs.Prelude.{◌≡◌, ◌⊎◌, ℕ, ◌+◌, ◌≤◌, List, ◌∷◌, ◌++◌, Some, map, length}
use Rattle.bt_page.specs.Limits.{NodeWithin}
use Rattle.bt_page.specs.declared.page.NodeEntry.{NodeEntry}
use Rattle.bt_page.specs.declared.page.Node.{Node}
use Rattle.bt_rows.specs.declared.page.Page.TheVariants.{Node as node_page}
use Rattle.bt_rows.specs.declared.page.Slot.{Slot}
use Rattle.bt_rows.specs.Levels.{NodeAt, LeadsUp, LevelsHeld, level_times}
use Rattle.bt_rows.specs.Pages.{PageMap}
use Rattle.bt_rows.specs.Rows.{entry_slot, held}
use Rattle.bt_ways.specs.Ways.{Crumb, Leads, back_of, front_of, path_of, rows_of}

-- the nodes of a way are held, no page twice
pub record IsHeldWay (pages : PageMap) (root : ℕ) (cs : List Crumb) (s : Slot) : Type 0 where
  pub leads : Leads root cs s
  pub nodes : LevelsHeld pages (rows_of cs)
  pub once : (id : ℕ) → level_times id (rows_of cs) ≤ 1

-- rows of nodes in the place of others, over these places: so many more as the tree is higher, and they name what is new and what they named, and nothing else
pub record Climbed (old new : PageMap) (height height' root' : ℕ) (rows rows' : List (List NodeAt)) (slots : List Slot) : Type 0 where
  pub up : LeadsUp root' rows' slots
  pub nodes : LevelsHeld new rows'
  pub balance : (id : ℕ) → level_times id rows' + held old id ≡ level_times id rows + held new id
  pub others : (id : ℕ) → level_times id rows ≡ 0 → held old id ≡ 1 → new id ≡ old id
  pub grew : length rows' + height ≡ length rows + height'

-- each page is an old one, or a node within its limit
abbrev pub OnlyNodes : ℕ → PageMap → PageMap → Type 0
OnlyNodes limit old new = (id : ℕ) → (new id ≡ old id) ⊎ ((n : Node) × (new id ≡ Some (node_page n)) × NodeWithin limit n)

-- wherever this way led, the rows above stand again, with the places of these entries behind the one that it led to
pub record ClimbsWith (limit : ℕ) (old new : PageMap) (height height' root root' : ℕ) (path : List (ℕ × ℕ)) (added : List NodeEntry) : Type 0 where
  pub limits : OnlyNodes limit old new
  pub each : (cs : List Crumb) (s : Slot) → path ≡ path_of cs → IsHeldWay old root cs s
      → (rows : List (List NodeAt)) × Climbed old new height height' root' (rows_of cs) rows (front_of cs ++ s ∷ (map entry_slot added ++ back_of cs))
