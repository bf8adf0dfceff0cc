-- Pages stay within their limits where a leaf goes.
use Rattle.std.proofs.Common.{◌≡◌, ◌⊎◌, ℕ, Bool, true, false, Option, Some, None, sym, subst, inl, inr}
use Rattle.std.specs.Prelude.{◌==◌, if◌then◌else◌}
use Rattle.bt_page.specs.Limits.{NodeWithin}
use Rattle.bt_page.specs.declared.page.Leaf.{Leaf}
use Rattle.bt_page.specs.declared.page.Node.{Node}
use Rattle.bt_rows.specs.declared.head.TreeHead.{TreeHead}
use Rattle.bt_rows.specs.declared.page.Page.{Page}
use Rattle.bt_rows.specs.declared.page.Page.TheVariants.{Leaf as leaf_page, Node as node_page}
use Rattle.bt_rows.specs.Pages.{PageMap}
use Rattle.bt_rows.specs.Rules.{LeafLimits, IsWithin, B5}
use Rattle.bt_ways.specs.Removals.{OnlyFewer, page_next, page_prev, with_next, with_prev, without_leaf}

-- links don't count
linked_within : (h : TreeHead) (id prev next : ℕ) (l : Leaf) → LeafLimits h id l → LeafLimits h id (record { prev = prev; next = next; items = l.items })
linked_within h id prev next l w = record { within = record { keys = w.within.keys; bytes = w.within.bytes }; some = w.some }

next_within : (h : TreeHead) (id next : ℕ) (p : Option Page) → IsWithin h id p → IsWithin h id (page_next next p)
next_within h id next None w = tt
next_within h id next (Some (leaf_page l)) w = linked_within h id l.prev next l w
next_within h id next (Some (node_page n)) w = w

prev_within : (h : TreeHead) (id prev : ℕ) (p : Option Page) → IsWithin h id p → IsWithin h id (page_prev prev p)
prev_within h id prev None w = tt
prev_within h id prev (Some (leaf_page l)) w = linked_within h id prev l.next l w
prev_within h id prev (Some (node_page n)) w = w

-- one page is another
other_within : (h : TreeHead) (id : ℕ) (b : Bool) (p q : Option Page) → IsWithin h id p → IsWithin h id q → IsWithin h id (if b then p else q)
other_within h id true p q w v = w
other_within h id false p q w v = v

pub without_within : (h : TreeHead) (id : ℕ) (l : Leaf) (pages : PageMap) → B5 h pages → B5 h (without_leaf id l pages)
without_within h id l pages w j =
    let first : IsWithin h j (with_next l.prev l.next pages j) = other_within h j (j == l.prev) (page_next l.next (pages j)) (pages j) (next_within h j l.next (pages j) (w j)) (w j) in
    let second : IsWithin h j (with_prev l.next l.prev (with_next l.prev l.next pages) j) =
    other_within h j (j == l.next) (page_prev l.prev (with_next l.prev l.next pages j)) (with_next l.prev l.next pages j) (prev_within h j l.prev (with_next l.prev l.next pages j) first) first in
    other_within h j (j == id) None (with_prev l.next l.prev (with_next l.prev l.next pages) j) tt second

pub fewer_within : (h : TreeHead) (old new : PageMap) → OnlyFewer h.node_limit old new → B5 h old → B5 h new
fewer_within h old new fewer w j = go (fewer j)
  where
    go : (new j ≡ old j) ⊎ ((new j ≡ None) ⊎ ((n m : Node) × (old j ≡ Some (node_page n)) × (new j ≡ Some (node_page m)) × NodeWithin h.node_limit m)) → IsWithin h j (new j)
    go (inl e) = subst (IsWithin h j) (sym e) (w j)
    go (inr (inl e)) = subst (IsWithin h j) (sym e) tt
    go (inr (inr n)) = subst (IsWithin h j) (sym n.3) n.4
