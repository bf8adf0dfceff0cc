-- The way to the leaf where a key belongs, and that leaf.
use Rattle.std.specs.Prelude.{◌≡◌, ℕ, List, Bool, true, false}
use Rattle.std.specs.List.Sorted.{IsPartitionedBy, IsPartitionPoint}
use Rattle.std.specs.FinMap.{get}
use Rattle.std.specs.declared.cmp.Ordering.{Ordering}
use Rattle.tc_base.specs.Maps.{Map}
use Rattle.tc_base.specs.declared.order.Order.{Ghosts as Orders}
use Rattle.tc_base.specs.declared.seq.Pair.{Pair}
use Rattle.tc_space.specs.declared.records.Records.{Ghosts as Stores}
use Rattle.tc_space.specs.declared.space.Space.{Ghosts}
use Rattle.bt_page.specs.declared.page.Leaf.{Leaf}
use Rattle.bt_rows.specs.Orders.{Before, before_by}
use Rattle.bt_cache.specs.Held.{Beside}
use Rattle.bt_ways.specs.Items.{IsLeafFor}
use Rattle.bt_ways.specs.Ways.{Found}
use Rattle.bt_tree.specs.declared.tree.Tree.{Tree}
use Rattle.bt_tree.specs.Meaning.{Means}
use Rattle.bt_tree.specs.Trees.{IsTree}

-- where those whose keys are in front come first, they are so many
abbrev pub IsFrontOf : {X : Type 0} → (X → List ℕ) → (List ℕ → Bool) → List X → ℕ → Type 0
IsFrontOf key in_front xs n = IsPartitionedBy (λ x. in_front (key x)) xs → IsPartitionPoint (λ x. in_front (key x) ≡ true) (λ x. in_front (key x) ≡ false) xs n

-- where a key belongs into a leaf, this is what is answered of the pairs among which it belongs
abbrev pub AnswersAt : {A : Type 0} → (List ℕ → List ℕ → Ordering) → List ℕ → (List Pair → A) → Leaf → A → Type 0
AnswersAt cmp key f leaf x = (ps : List Pair) → IsLeafFor (before_by cmp) key ps leaf → x ≡ f ps

-- in whatever tree of such an order a store holds this is the way to where a key belongs, by that order or by the end of a stretch, and the id of the leaf there
abbrev pub LeadsTo : {S V O : Type 0} → Ghosts S → Stores V S → (List ℕ → List ℕ → Ordering) → Before → List ℕ → Tree V O → S → List (ℕ × ℕ) → ℕ → Type 0
LeadsTo s R cmp by key t space path id =
    (m : Map) (is : IsTree (before_by cmp) t.head t.height (get m)) → Beside s R (t.cache.pages, t.store) space m → Found by t.head.root key is.leaves is.levels path id

-- whatever pairs a tree means, this is the leaf where a key belongs among them
abbrev pub FindsLeaf : {S V O : Type 0} → Ghosts S → Stores V S → Orders O → List ℕ → Tree V O → S → Leaf → Type 0
FindsLeaf s R o key t space leaf = (ps : List Pair) → Means s R o t space ps → IsLeafFor (before_by o.cmp) key ps leaf
