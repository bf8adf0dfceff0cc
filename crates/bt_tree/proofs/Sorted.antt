-- The pairs of a tree stand in the order of their keys.
use Rattle.std.proofs.Common.{◌≡◌, ℕ, List, [], ◌∷◌, ◌++◌, true, map, refl, subst, append_assoc}
use Rattle.std.specs.List.{AllByRecursion, flat_map}
use Rattle.std.specs.declared.cmp.Ordering.{Ordering}
use Rattle.std.specs.declared.cmp.Ordering.TheVariants.{Less, Equal, Greater}
use Rattle.std.specs.Ordering.{is_le, is_lt, ordering_reverse}
use Rattle.std.specs.Cmp.{IsTotalOrder}
use Rattle.std.proofs.lemmas.Map.Lookups.{CmpEqualImpliesEq}
use Rattle.tc_base.specs.Lists.{Rises, pair}
use Rattle.tc_base.specs.declared.seq.Pair.{Pair}
use Rattle.bt_page.specs.declared.page.Item.{Item}
use Rattle.bt_rows.specs.declared.page.LeafAt.{LeafAt}
use Rattle.bt_rows.specs.Orders.{IsOrder, before_by}
use Rattle.bt_rows.specs.Rules.{AtLeast, Under, Ascends, IsBelow, InOrder, item_pairs, leaf_pairs, pairs_of}
use Rattle.bt_rows.proofs.Ordered.{orders_are_strict}
use Rattle.bt_ways.proofs.Keys.{all_map, all_join, all_pairs, all_items, under_on}

module _ (cmp : List ℕ → List ℕ → Ordering) (total : IsTotalOrder cmp) (exact : CmpEqualImpliesEq cmp) where
  -- the first key is not above these
  abbrev pub UpTo : List ℕ → List Pair → Type 0
  UpTo k ps = AllByRecursion (λ q. is_le (cmp k q.key) ≡ true) ps

  le_self : (k : List ℕ) → is_le (cmp k k) ≡ true
  le_self k = go (cmp k k) (total.antisymm k k)
    where
      go : (o : Ordering) → o ≡ ordering_reverse o → is_le o ≡ true
      go Less e = refl
      go Equal e = refl
      go Greater e = absurd (cc)

  pub le_of : (x y : List ℕ) → before_by cmp x y ≡ true → is_le (cmp x y) ≡ true
  le_of x y lt = go (cmp x y) lt
    where
      go : (o : Ordering) → is_lt o ≡ true → is_le o ≡ true
      go Less e = refl
      go Equal e = refl
      go Greater e = absurd (cc)

  values_rise : (k : List ℕ) (vs : List (List ℕ)) (rest : List Pair) → UpTo k rest → Rises cmp rest → Rises cmp (map (pair k) vs ++ rest)
  values_rise k [] rest up r = r
  values_rise k (v ∷ vs) rest up r = (all_join (λ q. is_le (cmp k q.key) ≡ true) (map (pair k) vs) rest (all_pairs (λ x. is_le (cmp k x) ≡ true) k vs (le_self k)) up, values_rise k vs rest up r)

  items_rise : (xs : List Item) (rest : List Pair) → Ascends (before_by cmp) xs → AllByRecursion (λ x. UpTo x.key rest) xs → Rises cmp rest → Rises cmp (flat_map item_pairs xs ++ rest)
  items_rise [] rest asc up r = r
  items_rise (x ∷ xs) rest asc up r =
      let above : UpTo x.key (flat_map item_pairs xs ++ rest) = all_join (λ q. is_le (cmp x.key q.key) ≡ true) (flat_map item_pairs xs) rest
      (all_items (λ k. is_le (cmp x.key k) ≡ true) xs (all_map (λ y. before_by cmp x.key y.key ≡ true) (λ y. is_le (cmp x.key y.key) ≡ true) xs (λ y lt. le_of x.key y.key lt) asc.0)) up.0 in
      subst (λ (t : List Pair). Rises cmp t) (rearrange (item_pairs x) (flat_map item_pairs xs) rest) (values_rise x.key x.values (flat_map item_pairs xs ++ rest) above (items_rise xs rest asc.1 up.1 r))
    where
      rearrange : (a b c : List Pair) → a ++ (b ++ c) ≡ (a ++ b) ++ c
      rearrange a b c = simp append_assoc

  -- a key under the bound of each of these leaves is not above their pairs
  up_to_leaves : (k : List ℕ) (ls : List LeafAt) → AllByRecursion (λ m. Under (before_by cmp) k m.slot.bound) ls → InOrder (before_by cmp) ls → UpTo k (pairs_of ls)
  up_to_leaves k [] u o = tt
  up_to_leaves k (m ∷ ls) u o =
      let order : IsOrder (before_by cmp) = orders_are_strict cmp total exact in
      all_join (λ q. is_le (cmp k q.key) ≡ true) (leaf_pairs m) (pairs_of ls)
      (all_items (λ x. is_le (cmp k x) ≡ true) m.leaf.items (all_map (λ x. AtLeast (before_by cmp) m.slot.bound x.key) (λ x. is_le (cmp k x.key) ≡ true) m.leaf.items (λ x least. le_of k x.key (under_on (before_by cmp) order k m.slot.bound x.key u.0 least)) o.0.above))
      (up_to_leaves k ls u.1 o.2)

  pub leaves_rise : (ls : List LeafAt) → InOrder (before_by cmp) ls → Rises cmp (pairs_of ls)
  leaves_rise [] o = tt
  leaves_rise (l ∷ ls) o = items_rise l.leaf.items (pairs_of ls) o.0.ascends (each l.leaf.items ls (all_map (IsBelow (before_by cmp) l) (λ m. AllByRecursion (λ y. Under (before_by cmp) y.key m.slot.bound) l.leaf.items) ls (λ m b. b.items) o.1) o.2) (leaves_rise ls o.2)
    where
      each : (xs : List Item) (ls : List LeafAt) → AllByRecursion (λ m. AllByRecursion (λ y. Under (before_by cmp) y.key m.slot.bound) xs) ls → InOrder (before_by cmp) ls → AllByRecursion (λ x. UpTo x.key (pairs_of ls)) xs
      each [] ls h o = tt
      each (x ∷ xs) ls h o = (up_to_leaves x.key ls (heads ls h) o, each xs ls (tails ls h) o)
        where
          heads : (ls : List LeafAt) → AllByRecursion (λ m. AllByRecursion (λ y. Under (before_by cmp) y.key m.slot.bound) (x ∷ xs)) ls → AllByRecursion (λ m. Under (before_by cmp) x.key m.slot.bound) ls
          heads [] h = tt
          heads (m ∷ ls) h = (h.0.0, heads ls h.1)

          tails : (ls : List LeafAt) → AllByRecursion (λ m. AllByRecursion (λ y. Under (before_by cmp) y.key m.slot.bound) (x ∷ xs)) ls → AllByRecursion (λ m. AllByRecursion (λ y. Under (before_by cmp) y.key m.slot.bound) xs) ls
          tails [] h = tt
          tails (m ∷ ls) h = (h.0.1, tails ls h.1)
