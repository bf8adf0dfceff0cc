-- The pages that a map of keys and values holds.
use Rattle.std.specs.Prelude.{◌≡◌, ℕ, ◌+◌, ◌<◌, ◌≤◌, ◌⊎◌, List, Option, Some, None, ⊤}
use Rattle.bt_page.specs.Keys.{node_offset, key_of}
use Rattle.bt_page.specs.Pages.{leaf_bytes, node_bytes, LeafFits, NodeFits}
use Rattle.bt_page.specs.Spelled.{Spells}
use Rattle.bt_rows.specs.declared.head.TreeHead.{TreeHead}
use Rattle.bt_rows.specs.declared.page.Page.{Page}
use Rattle.bt_rows.specs.declared.page.Page.TheVariants.{Leaf as leaf_page, Node as node_page}

-- what a store of records holds
abbrev pub Map : Type 0
Map = List ℕ → Option (List ℕ)

-- the pages by their ids
abbrev pub PageMap : Type 0
PageMap = ℕ → Option Page

-- the id of a leaf or of a node that was given
abbrev pub IsGiven : TreeHead → ℕ → Type 0
IsGiven h id = ((1 ≤ id) × (id ≤ h.leaf_ids)) ⊎ ((node_offset < id) × (id ≤ node_offset + h.node_ids))

-- the bytes are one whole page: a leaf where the id is one of leaves, a node where it is one of nodes
abbrev pub IsPage : ℕ → List ℕ → Page → Type 0
IsPage id bytes (leaf_page l) = (id < node_offset) × Spells LeafFits leaf_bytes bytes l
IsPage id bytes (node_page n) = (node_offset ≤ id) × Spells NodeFits node_bytes bytes n

-- a record and the page that is read of it
abbrev pub IsHeldAs : ℕ → Option (List ℕ) → Option Page → Type 0
IsHeldAs id None None = ⊤
IsHeldAs id None (Some p) = ⊥
IsHeldAs id (Some bytes) None = ⊥
IsHeldAs id (Some bytes) (Some p) = IsPage id bytes p

-- these are the pages that the map holds
pub record AreHeld (h : TreeHead) (m : Map) (pages : PageMap) : Type 0 where
  pub given : (id : ℕ) → IsGiven h id → IsHeldAs id (m (key_of id)) (pages id)
  pub others : (id : ℕ) → (IsGiven h id → ⊥) → pages id ≡ None
