-- Items as copies, from some place on.
use Rattle.std.specs.Prelude.{◌≡◌, ℕ, List, [], ◌++◌, drop, filter}
use Rattle.std.specs.declared.cmp.Ordering.{Ordering}
use Rattle.tc_base.specs.Maps.{Map}
use Rattle.tc_base.specs.declared.order.Order.{Ghosts as Orders}
use Rattle.tc_base.specs.declared.order.Side.{Side}
use Rattle.tc_base.specs.declared.seq.Pair.{Pair}
use Rattle.tc_space.specs.declared.records.Records.{Ghosts as Stores}
use Rattle.tc_space.specs.declared.space.Space.{Ghosts}
use Rattle.bt_page.specs.declared.page.Item.{Item}
use Rattle.bt_page.specs.declared.page.Leaf.{Leaf}
use Rattle.bt_rows.specs.Orders.{Before}
use Rattle.bt_rows.specs.Rules.{Ascends}
use Rattle.bt_rows.specs.declared.page.Page.TheVariants.{Leaf as leaf_page}
use Rattle.bt_cache.specs.Held.{Beside, HasPage}
use Rattle.bt_ways.specs.Changes.{AreItems, items_pairs}
use Rattle.bt_tree.specs.declared.tree.Tree.{Tree}
use Rattle.bt_tree.specs.Meaning.{Means}
use Rattle.bt_tree.specs.Ranging.{IsStart, is_from}

-- the pairs that aren't in front of a stretch
abbrev pub pairs_from : (List ℕ → Side) → List Pair → List Pair
pairs_from side ps = filter (λ p. is_from (side p.key)) ps

-- the first of the items that stand for these pairs, each key once, with all its values; some where there are any
pub record AreFirstOf (cmp : List ℕ → List ℕ → Ordering) (items : List Item) (ps : List Pair) : Type 0 where
  pub left : List Item
  pub are : AreItems cmp (items ++ left)
  pub pairs : items_pairs (items ++ left) ≡ ps
  pub some : items ≡ [] → ps ≡ []

-- so they are of the pairs that a tree means and that aren't in front of a stretch
abbrev pub SeeksPairs : {S V O : Type 0} → Ghosts S → Stores V S → Orders O → (List ℕ → Side) → Tree V O → S → List Item → Type 0
SeeksPairs s R o side tree space items = (ps : List Pair) → Means s R o tree space ps → AreFirstOf o.cmp items (pairs_from side ps)

-- the items of a leaf that aren't in front of a stretch, and the next leaf
pub record CopiesFrom (side : List ℕ → Side) (l : Leaf) (items : List Item) (next : ℕ) : Type 0 where
  pub place : ℕ
  pub start : IsStart side l.items place
  pub are : items ≡ drop place l.items
  pub on : next ≡ l.next

-- so it is of whatever leaf stands under an id
abbrev pub SeeksLeaf : {S V O : Type 0} → Ghosts S → Stores V S → Before → (List ℕ → Side) → ℕ → Tree V O → S → List Item → ℕ → Type 0
SeeksLeaf s R before side id tree space items next =
    (m : Map) (l : Leaf) → Beside s R (tree.cache.pages, tree.store) space m → HasPage m id (leaf_page l) → Ascends before l.items → CopiesFrom side l items next
