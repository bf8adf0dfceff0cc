-- The last leaf of a tree.
use Rattle.std.proofs.Common.{◌≡◌, ℕ, ◌<◌, List, [], ◌∷◌, ◌++◌, Bool, Option, Some, None, length, map, refl, sym, ap, ◌∙◌, subst, arith}
use Rattle.std.specs.FinMap.{get}
use Rattle.std.specs.List.{AllByRecursion}
use Rattle.tc_base.specs.Maps.{Map}
use Rattle.tc_base.specs.declared.order.Order.{Ghosts as Orders}
use Rattle.tc_base.specs.declared.seq.Pair.{Pair}
use Rattle.tc_space.specs.declared.records.Records.{Ghosts as Stores}
use Rattle.tc_space.specs.declared.space.Space.{Ghosts}
use Rattle.bt_page.specs.Pages.{HasValue}
use Rattle.bt_page.specs.declared.page.Item.{Item}
use Rattle.bt_rows.specs.declared.head.TreeHead.{TreeHead}
use Rattle.bt_rows.specs.declared.page.LeafAt.{LeafAt}
use Rattle.bt_rows.specs.declared.page.Page.{Page}
use Rattle.bt_rows.specs.declared.page.Page.TheVariants.{Leaf as leaf_page}
use Rattle.bt_rows.specs.Levels.{LeadsUp, LeavesHeld, Stands, leaf_slot}
use Rattle.bt_rows.specs.Orders.{Before, IsOrder, before_by}
use Rattle.bt_rows.specs.Rows.{last_id}
use Rattle.bt_rows.specs.Rules.{IsWithin, pairs_of}
use Rattle.bt_cache.specs.Held.{Beside, HasPage, IsThere}
use Rattle.bt_cache.specs.Shared.{IsSomeLeaf}
use Rattle.bt_tree.specs.declared.tree.Tree.{Tree}
use Rattle.bt_tree.specs.Meaning.{IsOpen}
use Rattle.bt_tree.specs.Showing.{ShownOf, ShowsItem, ShowsOne, Takes, end_of, item_last}
use Rattle.bt_tree.specs.Trees.{HoldsPairs}
use Rattle.bt_tree.proofs.Clears.{none_up}
use Rattle.bt_tree.proofs.Descents.{leaf_values}
use Rattle.bt_tree.proofs.EndPairs.{HasLast, has_last, item_of_leaves, last_is}
use Rattle.bt_tree.proofs.Pages.{has_page}
use Rattle.bt_tree.proofs.Scans.{not_root}
use Rattle.bt_ways.proofs.Rows.{leaves_part}

end_of_none : (xs : List Item) → end_of xs ≡ None → length xs ≡ 0
end_of_none [] e = refl
end_of_none (x ∷ []) e = absurd (cc)
end_of_none (x ∷ y ∷ ys) e = absurd (longer y ys e)
  where
    longer : (y : Item) (ys : List Item) → end_of (y ∷ ys) ≡ None → ⊥
    longer y [] e = cc
    longer y (z ∷ zs) e = longer z zs e

no_items : (l : LeafAt) → length l.leaf.items ≡ 0 → None ≡ item_last (pairs_of (l ∷ []))
no_items l e = go l.leaf.items e
  where
    go : (xs : List Item) → length xs ≡ 0 → None ≡ item_last (pairs_of (record l { leaf = record l.leaf { items = xs } } ∷ []))
    go [] e = refl
    go (x ∷ xs) e = absurd (omega (arith, e))

module _ (before : Before) (order : IsOrder before) (h : TreeHead) (height : ℕ) (column : Option (List ℕ)) (m : Map) (ps : List Pair) (is : HoldsPairs before h height column (get m) ps) where
  last_leaf : HasLast is.tree.leaves
  last_leaf = go is.tree.leaves refl
    where
      go : (ls : List LeafAt) → is.tree.leaves ≡ ls → HasLast is.tree.leaves
      go [] e = absurd (none_up h.root is.tree.levels (subst (λ (x : List LeafAt). LeadsUp h.root is.tree.levels (map leaf_slot x)) e is.tree.stands.up))
      go (l ∷ ls) e = subst (λ (x : List LeafAt). HasLast x) (sym e) (has_last l ls)

  last_held : is.tree.pages last_leaf.leaf.slot.id ≡ Some (leaf_page last_leaf.leaf.leaf)
  last_held = (leaves_part is.tree.pages last_leaf.front (last_leaf.leaf ∷ []) (subst (λ (x : List LeafAt). LeavesHeld is.tree.pages x) last_leaf.are is.tree.stands.leaves_held)).1.0

  last_named : h.last ≡ last_leaf.leaf.slot.id
  last_named = is.links.last ∙ ap (λ (x : List LeafAt). last_id 0 x) last_leaf.are ∙ last_is 0 last_leaf.front last_leaf.leaf

  last_page : HasPage m h.last (leaf_page last_leaf.leaf.leaf)
  last_page = has_page h m is.tree.pages h.last (leaf_page last_leaf.leaf.leaf) is.tree.head is.tree.held (ap is.tree.pages last_named ∙ last_held)

  last_values : AllByRecursion HasValue last_leaf.leaf.leaf.items
  last_values = leaf_values m h.last last_leaf.leaf.leaf last_page

  last_item : end_of last_leaf.leaf.leaf.items ≡ item_last ps
  last_item = go (end_of last_leaf.leaf.leaf.items) refl
    where
      pairs : ps ≡ pairs_of (last_leaf.front ++ last_leaf.leaf ∷ [])
      pairs = is.are ∙ ap pairs_of last_leaf.are

      stands : Stands before is.tree.pages h.root (last_leaf.front ++ last_leaf.leaf ∷ []) is.tree.levels
      stands = subst (λ (x : List LeafAt). Stands before is.tree.pages h.root x is.tree.levels) last_leaf.are is.tree.stands

      some : 0 < length last_leaf.front → 0 < length last_leaf.leaf.leaf.items
      some more =
          let within : IsWithin h last_leaf.leaf.slot.id (Some (leaf_page last_leaf.leaf.leaf)) = subst (λ (o : Option Page). IsWithin h last_leaf.leaf.slot.id o) last_held (is.limits last_leaf.leaf.slot.id) in
          within.some (not_root before is.tree.pages h.root is.tree.levels last_leaf.front last_leaf.leaf [] stands more last_held)

      none : (front : List LeafAt) → (0 < length front → 0 < length last_leaf.leaf.leaf.items) → length last_leaf.leaf.leaf.items ≡ 0 → None ≡ item_last (pairs_of (front ++ last_leaf.leaf ∷ []))
      none [] more e = no_items last_leaf.leaf e
      none (x ∷ xs) more e = absurd (omega (arith, e, more (omega arith)))

      go : (o : Option Item) → end_of last_leaf.leaf.leaf.items ≡ o → end_of last_leaf.leaf.leaf.items ≡ item_last ps
      go None e = e ∙ none last_leaf.front some (end_of_none last_leaf.leaf.leaf.items e) ∙ sym (ap item_last pairs)
      go (Some x) e = e ∙ item_of_leaves before order last_leaf.front last_leaf.leaf x stands.order last_values e ∙ sym (ap item_last pairs)

module _ {S V O : Type 0} (s : Ghosts S) (R : Stores V S) (o : Orders O) (t : Tree V O) (space : S) where
  pub last_there : IsOrder (before_by o.cmp) → IsOpen s R o t space → IsThere s R IsSomeLeaf t.head.last t.cache t.store space
  last_there order ready = λ told.
      let h = ready.held told in
      let m : Map = h.1.1.records in
      let is : HoldsPairs (before_by o.cmp) t.head t.height t.column (get m) h.0 = h.1.1.is in
      let b : Beside s R (t.cache.pages, t.store) space m = ((told, h.1.1.store), h.1.1.same) in
      let last = last_leaf (before_by o.cmp) order t.head t.height t.column m h.0 is in
      (m, leaf_page last.leaf.leaf, b, last_page (before_by o.cmp) order t.head t.height t.column m h.0 is, (last.leaf.leaf, refl))

  pub shown_last : {T : Type 0} (takes : Takes T) (held : Bool) (a b : T) → IsOrder (before_by o.cmp) → ShowsOne s R takes t.head.last t space held a b → ShowsItem s R o item_last takes t space held a b
  shown_last {T} takes held a b order shows = λ ps means.
      let m : Map = means.1.records in
      let is : HoldsPairs (before_by o.cmp) t.head t.height t.column (get m) ps = means.1.is in
      let beside : Beside s R (t.cache.pages, t.store) space m = ((means.0, means.1.store), means.1.same) in
      let last = last_leaf (before_by o.cmp) order t.head t.height t.column m ps is in
      subst (λ (x : Option Item). ShownOf takes x held a b) (last_item (before_by o.cmp) order t.head t.height t.column m ps is)
      (shows m last.leaf.leaf beside (last_page (before_by o.cmp) order t.head t.height t.column m ps is))
