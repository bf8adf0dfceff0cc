-- The sizes that a tree's pages may have.
use Rattle.std.specs.Prelude.{ℕ, ◌≤◌, length}
use Rattle.std.specs.List.{flat_map}
use Rattle.bt_page.specs.declared.page.Leaf.{Leaf}
use Rattle.bt_page.specs.declared.page.Node.{Node}
use Rattle.bt_page.specs.Pages.{item_bytes}

-- what a limit of keys or of entries may be
abbrev pub IsLimit : ℕ → Type 0
IsLimit n = (4 ≤ n) × (n ≤ 256)

-- so many keys at most; and with two or more, so many bytes behind the links
pub record LeafWithin (limit : ℕ) (l : Leaf) : Type 0 where
  pub keys : length l.items ≤ limit
  pub bytes : 2 ≤ length l.items → length (flat_map item_bytes l.items) ≤ 65536

-- so many entries at most
abbrev pub NodeWithin : ℕ → Node → Type 0
NodeWithin limit n = length n.entries ≤ limit
