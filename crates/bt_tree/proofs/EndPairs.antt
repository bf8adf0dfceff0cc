-- The last item of pairs, and of a tree.
use Rattle.std.proofs.Common.{◌≡◌, ℕ, zero, suc, ◌<◌, ◌^◌, List, [], ◌∷◌, ◌++◌, true, Option, Some, length, map, refl, sym, ap, ◌∙◌, arith, slice_index_or}
use Rattle.std.specs.Prelude.{slice_get, option_and_then}
use Rattle.std.specs.List.{AllByRecursion, flat_map}
use Rattle.std.proofs.lemmas.Grind.{flat_map-append}
use Rattle.std.proofs.lemmas.List.{append-nil}
use Rattle.tc_base.specs.Lists.{pair}
use Rattle.tc_base.specs.declared.seq.Pair.{Pair}
use Rattle.tc_space.specs.declared.records.Records.{Ghosts as Stores}
use Rattle.tc_space.specs.declared.space.Space.{Ghosts}
use Rattle.bt_page.specs.Pages.{HasValue}
use Rattle.bt_page.specs.declared.page.Item.{Item}
use Rattle.bt_page.specs.declared.page.Leaf.{Leaf}
use Rattle.bt_rows.specs.declared.page.LeafAt.{LeafAt}
use Rattle.bt_rows.specs.Orders.{Before, IsOrder}
use Rattle.bt_rows.specs.Rules.{AtLeast, Ascends, InOrder, item_pairs, leaf_pairs, pairs_of}
use Rattle.bt_rows.specs.Rows.{last_id}
use Rattle.bt_cache.specs.Effects.{CountsPage, Looks}
use Rattle.bt_tree.specs.declared.tree.Tree.{Tree}
use Rattle.bt_tree.specs.Showing.{end_key, end_of, item_last}
use Rattle.bt_tree.specs.Visits.{StaysTree, Visits}
use Rattle.bt_tree.proofs.Descents.{one_page}
use Rattle.bt_tree.proofs.Finds.{found_some}
use Rattle.bt_ways.specs.Items.{IsLeafFor, item_in}
use Rattle.bt_ways.specs.Searches.{IsSpot}
use Rattle.bt_ways.proofs.Keys.{front_below, order_behind}
use Rattle.bt_ways.proofs.Spots.{get_all, get_at}

-- ---- one page is looked at

pub visits_one : {S V O : Type 0} (s : Ghosts S) (R : Stores V S) (t u : Tree V O) (id steps steps' : ℕ) (old new : S) → steps < 2 ^ 64 → Looks s R t.cache u.cache t.store u.store old new
    → CountsPage R id t.cache t.store u.store steps steps' → StaysTree t u → Visits s R 1 t u steps steps' old new
visits_one s R t u id steps steps' old new small looks counts stays = record { looks = looks; pages = one_page R id t.cache t.store u.store steps steps' small counts; stays = stays }

-- ---- the key of the last pair

end_key_behind : (a : List Pair) (q : Pair) (b : List Pair) → end_key (a ++ q ∷ b) ≡ end_key (q ∷ b)
end_key_behind [] q b = refl
end_key_behind (p ∷ []) q b = refl
end_key_behind (p ∷ r ∷ a) q b = end_key_behind (r ∷ a) q b

end_joined : (a b : List Pair) (k : List ℕ) → end_key b ≡ Some k → end_key (a ++ b) ≡ Some k
end_joined a [] k e = absurd (cc)
end_joined a (q ∷ b) k e = end_key_behind a q b ∙ e

end_own : (k : List ℕ) (vs : List (List ℕ)) → 0 < length vs → end_key (map (pair k) vs) ≡ Some k
end_own k [] lt = absurd (omega (arith, lt))
end_own k (v ∷ []) lt = refl
end_own k (v ∷ w ∷ ws) lt = end_own k (w ∷ ws) (omega arith)

end_items : (xs : List Item) (x : Item) → AllByRecursion HasValue xs → end_of xs ≡ Some x → end_key (flat_map item_pairs xs) ≡ Some x.key
end_items [] x h e = absurd (cc)
end_items (y ∷ []) x h e = let same : y ≡ x = cc in ap end_key (append-nil (item_pairs y)) ∙ end_own y.key y.values h.0 ∙ ap (λ (z : Item). Some z.key) same
end_items (y ∷ z ∷ zs) x h e = end_joined (item_pairs y) (flat_map item_pairs (z ∷ zs)) x.key (end_items (z ∷ zs) x h.1 e)

-- ---- and its item

end_place : (xs : List Item) (x : Item) → end_of xs ≡ Some x → (k : ℕ) × (slice_get xs k ≡ Some x)
end_place [] x e = absurd (cc)
end_place (y ∷ []) x e = (0, e)
end_place (y ∷ z ∷ zs) x e = let r = end_place (z ∷ zs) x e in (suc r.0, r.1)

inside_of : (xs : List Item) (k : ℕ) (x : Item) → slice_get xs k ≡ Some x → k < length xs
inside_of [] k x at = absurd (cc)
inside_of (y ∷ ys) zero x at = omega arith
inside_of (y ∷ ys) (suc k) x at = omega (arith, inside_of ys k x at)

module _ (before : Before) (order : IsOrder before) where
  low_of : (xs : List Item) (k : ℕ) (x : Item) → Ascends before xs → slice_get xs k ≡ Some x → (i : ℕ) (d : Item) → i < k → before (slice_index_or xs i d).key x.key ≡ true
  low_of [] k x asc at i d lt = absurd (cc)
  low_of (y ∷ ys) zero x asc at i d lt = absurd (omega (arith, lt))
  low_of (y ∷ ys) (suc k) x asc at zero d lt = get_all before order (λ z. before y.key z.key ≡ true) ys k x asc.0 at
  low_of (y ∷ ys) (suc k) x asc at (suc i) d lt = low_of ys k x asc.1 at i d (omega (arith, lt))

  -- an item is found where it stands
  pub spot_of : (xs : List Item) (k : ℕ) (x : Item) → Ascends before xs → slice_get xs k ≡ Some x → IsSpot before xs x.key k true
  spot_of xs k x asc at = record {
    within = omega (arith, inside_of xs k x at);
    low = low_of xs k x asc at;
    inside = λ e. inside_of xs k x at;
    there = λ d e. ap (λ (z : Item). z.key) (get_at before order xs k x d at);
    high = λ d e. absurd (cc);
  }

  -- behind pairs that are below it
  leaf_behind : (a : List Pair) (l : Leaf) (x : Item) → Ascends before l.items → AllByRecursion HasValue l.items → AllByRecursion (λ p. before p.key x.key ≡ true) a → IsLeafFor before x.key (a ++ flat_map item_pairs l.items) l
  leaf_behind a l x asc some low = record {
    ascends = asc;
    some = some;
    front = a;
    back = [];
    are = ap (λ (t : List Pair). a ++ t) (sym (append-nil (flat_map item_pairs l.items)));
    low = low;
    high = tt;
  }

  pub item_at_end : (a : List Pair) (l : Leaf) (x : Item) → Ascends before l.items → AllByRecursion HasValue l.items → end_of l.items ≡ Some x → AllByRecursion (λ p. before p.key x.key ≡ true) a
      → Some x ≡ item_last (a ++ flat_map item_pairs l.items)
  item_at_end a l x asc some e low =
      let at = end_place l.items x e in
      found_some before order x.key (a ++ flat_map item_pairs l.items) l at.0 (leaf_behind a l x asc some low) x (λ asc. spot_of l.items at.0 x asc at.1) at.1
      ∙ sym (ap (λ (o : Option (List ℕ)). option_and_then (λ key. item_in key (a ++ flat_map item_pairs l.items)) o) (end_joined a (flat_map item_pairs l.items) x.key (end_items l.items x some e)))

  -- ---- of leaves in order

  -- the last leaf's
  pub item_of_leaves : (front : List LeafAt) (l : LeafAt) (x : Item) → InOrder before (front ++ l ∷ []) → AllByRecursion HasValue l.leaf.items → end_of l.leaf.items ≡ Some x → Some x ≡ item_last (pairs_of (front ++ l ∷ []))
  item_of_leaves front l x o some e =
      let ob : InOrder before (l ∷ []) = order_behind before front (l ∷ []) o in
      let at = end_place l.leaf.items x e in
      let low = front_below before order front [] l x.key o (get_all before order (λ y. AtLeast before l.slot.bound y.key) l.leaf.items at.0 x ob.0.above at.1) in
      item_at_end (pairs_of front) l.leaf x ob.0.ascends some e low
      ∙ sym (ap item_last (flat_map-append leaf_pairs front (l ∷ []) ∙ ap (λ (t : List Pair). pairs_of front ++ t) (append-nil (leaf_pairs l))))

-- there is a last one
pub record HasLast (leaves : List LeafAt) : Type 0 where
  pub front : List LeafAt
  pub leaf : LeafAt
  pub are : leaves ≡ front ++ leaf ∷ []

pub has_last : (l : LeafAt) (ls : List LeafAt) → HasLast (l ∷ ls)
has_last l [] = record { front = []; leaf = l; are = refl }
has_last l (m ∷ ms) = let r = has_last m ms in record { front = l ∷ r.front; leaf = r.leaf; are = ap (λ (t : List LeafAt). l ∷ t) r.are }

pub last_is : (prev : ℕ) (front : List LeafAt) (l : LeafAt) → last_id prev (front ++ l ∷ []) ≡ l.slot.id
last_is prev [] l = refl
last_is prev (x ∷ front) l = last_is x.slot.id front l
