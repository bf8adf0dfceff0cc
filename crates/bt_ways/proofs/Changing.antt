-- A pair that comes into a leaf.
use Rattle.std.proofs.Common.{◌≡◌, ◌⊎◌, ℕ, ◌+◌, ◌<◌, zero, suc, List, [], ◌∷◌, ◌++◌, Bool, true, false, Some, arith, length, length-append, map, drop, refl, set, sym, ap, ◌∙◌, subst, inl, inr, ⊎_elim}
use Rattle.std.proofs.lemmas.Grind.{flat_map-append}
use Rattle.std.proofs.lemmas.List.{drop_at, length-map, set_at, take_at}
use Rattle.std.specs.Cmp.{IsTotalOrder}
use Rattle.std.specs.List.{AllByRecursion, insert}
use Rattle.std.specs.Prelude.{if◌then◌else◌, slice_get}
use Rattle.std.specs.declared.cmp.Ordering.{Ordering}
use Rattle.tc_base.specs.Lists.{pair, values}
use Rattle.tc_base.specs.declared.seq.Pair.{Pair}
use Rattle.bt_page.specs.Pages.{HasValue}
use Rattle.bt_page.specs.declared.page.Item.{Item}
use Rattle.bt_rows.specs.Orders.{Before, IsOrder, before_by}
use Rattle.bt_rows.specs.Rules.{Ascends, item_pairs, leaf_pairs, pairs_of}
use Rattle.bt_ways.specs.Changes.{AreItems, IsChanged, LeafTakesPair, inserted, items_pairs, values_with}
use Rattle.bt_ways.specs.Removals.{with_items}
use Rattle.bt_ways.specs.Searches.{IsSpot}
use Rattle.bt_ways.proofs.Keys.{all_join, all_part}
use Rattle.bt_ways.proofs.Revaluing.{leaf_revalued}
use Rattle.bt_ways.proofs.Spots.{Around, around_held, around_none, get_all, key_there, parts_of_around}
use Rattle.bt_ways.proofs.Values.{Parts, revalued, revalued_parts}

as_values : (cmp : List ℕ → List ℕ → Ordering) (total : IsTotalOrder cmp) (order : IsOrder (before_by cmp)) (last : Bool) (key value : List ℕ) (ps : List Pair) → inserted cmp last key value ps ≡ revalued cmp total order key (values_with last value) ps
as_values cmp total order true key value ps = refl
as_values cmp total order false key value ps = refl

-- ---- in a leaf

pub ascends_behind : (before : Before) (xs ys : List Item) → Ascends before (xs ++ ys) → Ascends before ys
ascends_behind before [] ys h = h
ascends_behind before (x ∷ xs) ys h = ascends_behind before xs ys h.1

pub pairs_count : (key : List ℕ) (front : List Pair) (vs : List (List ℕ)) (back : List Pair) {ps : List Pair} → ps ≡ front ++ (map (pair key) vs ++ back) → length ps ≡ length front + (length vs + length back)
pairs_count key front vs back e = ap length e ∙ length-append front (map (pair key) vs ++ back) ∙ omega (arith, length-append (map (pair key) vs) back, length-map vs (pair key))

-- an item between those below its key and those above it, in the place of others
pub ascends_put : (before : Before) (front its back : List Item) (item : Item) → Ascends before (front ++ (its ++ back)) → AllByRecursion (λ x. before x.key item.key ≡ true) front → AllByRecursion (λ x. before item.key x.key ≡ true) back
    → Ascends before (front ++ item ∷ back)
ascends_put before [] its back item asc low high = (high, ascends_behind before its back asc)
ascends_put before (x ∷ front) its back item asc low high =
    let parts = all_part (λ y. before x.key y.key ≡ true) front (its ++ back) asc.0 in
    let behind = all_part (λ y. before x.key y.key ≡ true) its back parts.1 in
    (all_join (λ y. before x.key y.key ≡ true) front (item ∷ back) parts.0 (low.0, behind.1), ascends_put before front its back item asc.1 low.1 high)

module _ (cmp : List ℕ → List ℕ → Ordering) (total : IsTotalOrder cmp) (order : IsOrder (before_by cmp)) (last : Bool) (key value : List ℕ) (old : List Item) (place : ℕ) (held : AreItems cmp old) where
  changed_around : (its : List Item) (vs : List (List ℕ)) (a : Around (before_by cmp) key old place its vs) (item : Item) (grown : Bool) → item.key ≡ key → item.values ≡ values_with last value vs
      → (old ≡ a.front ++ a.back) ⊎ ((was : Item) × (was.key ≡ key) × (old ≡ a.front ++ was ∷ a.back))
      → length (values_with last value vs) ≡ length vs + (if grown then 1 else 0)
      → IsChanged cmp last key value old (a.front ++ item ∷ a.back) place grown
  changed_around its vs a item grown k v old_is more =
      let pairs : items_pairs (a.front ++ item ∷ a.back) ≡ items_pairs a.front ++ (map (pair key) (values_with last value vs) ++ items_pairs a.back) =
      flat_map-append item_pairs a.front (item ∷ a.back)
      ∙ ap (λ (t : List ℕ). items_pairs a.front ++ (map (pair t) item.values ++ items_pairs a.back)) k
      ∙ ap (λ (t : List (List ℕ)). items_pairs a.front ++ (map (pair key) t ++ items_pairs a.back)) v in
      let parts : Parts (before_by cmp) key (items_pairs old) = parts_of_around (before_by cmp) key old place its vs a in
      let low : AllByRecursion (λ x. before_by cmp x.key item.key ≡ true) a.front = subst (λ (t : List ℕ). AllByRecursion (λ x. before_by cmp x.key t ≡ true) a.front) (sym k) a.low in
      let high : AllByRecursion (λ x. before_by cmp item.key x.key ≡ true) a.back = subst (λ (t : List ℕ). AllByRecursion (λ x. before_by cmp t x.key ≡ true) a.back) (sym k) a.high in
      let has = all_part HasValue a.front (its ++ a.back) (subst (λ (t : List Item). AllByRecursion HasValue t) a.are held.some) in
      record {
        front = a.front;
        item = item;
        back = a.back;
        old_is = old_is;
        new_is = refl;
        key_is = k;
        place_is = sym a.at;
        items = record {
          ascends = ascends_put (before_by cmp) a.front its a.back item (subst (λ (t : List Item). Ascends (before_by cmp) t) a.are held.ascends) low high;
          some = all_join HasValue a.front (item ∷ a.back) has.0 (some_with last v, (all_part HasValue its a.back has.1).1);
        };
        pairs = pairs ∙ sym (as_values cmp total order last key value (items_pairs old) ∙ revalued_parts cmp total order key (values_with last value) (items_pairs old) parts);
        count = omega (arith, pairs_count key (items_pairs a.front) (values_with last value vs) (items_pairs a.back) pairs, pairs_count key (items_pairs a.front) vs (items_pairs a.back) parts.are, more);
      }
    where
      some_with : (b : Bool) → item.values ≡ values_with b value vs → HasValue item
      some_with true e = omega (arith, ap length e, length-append vs (value ∷ []))
      some_with false e = omega (arith, ap length e)

  -- with its key
  pub changed_new : (new : List Item) → IsSpot (before_by cmp) old key place false → new ≡ insert old place (record { key = key; values = value ∷ [] }) → IsChanged cmp last key value old new place true
  changed_new new spot is =
      let item : Item = record { key = key; values = value ∷ [] } in
      let a : Around (before_by cmp) key old place [] [] = around_none (before_by cmp) order key old place held.ascends spot in
      subst (λ (t : List Item). IsChanged cmp last key value old t place true) (put_in item a.front a.back a.are a.at ∙ sym is)
      (changed_around [] [] a item true refl (single last) (inl a.are) (one last))
    where
      single : (b : Bool) → value ∷ [] ≡ values_with b value []
      single true = refl
      single false = refl

      one : (b : Bool) → length (values_with b value []) ≡ 0 + (if true then 1 else 0)
      one true = refl
      one false = refl

      put_in : (item : Item) (front back : List Item) → old ≡ front ++ back → length front ≡ place → front ++ item ∷ back ≡ insert old place item
      put_in item front back e at = sym (
          ap (λ (t : List Item). insert t place item) e
          ∙ ap (λ (t : List Item). t ++ item ∷ drop place (front ++ back)) (take_at front back place at)
          ∙ ap (λ (t : List Item). front ++ item ∷ t) (drop_at front back place at))

  -- where it is held
  changed_held : (was item : Item) → slice_get old place ≡ Some was → item.key ≡ was.key → item.values ≡ values_with last value was.values → IsSpot (before_by cmp) old key place true
      → IsChanged cmp last key value old (set old place item) place last
  changed_held was item at k v spot =
      let a : Around (before_by cmp) key old place (was ∷ []) was.values = around_held (before_by cmp) order key old place was at held.ascends spot in
      let its : was.key ≡ key = key_there (before_by cmp) order key old place was at spot in
      subst (λ (t : List Item). IsChanged cmp last key value old t place last) (sym (ap (λ (t : List Item). set t place item) a.are ∙ set_at a.front was a.back item place a.at))
      (changed_around (was ∷ []) was.values a item last (k ∙ its) v (inr (was, its, a.are)) (more last was.values (get_all (before_by cmp) order HasValue old place was held.some at)))
    where
      more : (b : Bool) (vs : List (List ℕ)) → 0 < length vs → length (values_with b value vs) ≡ length vs + (if b then 1 else 0)
      more true vs lt = length-append vs (value ∷ [])
      more false [] lt = absurd (omega (arith, lt))
      more false (v ∷ vs) lt = omega arith

  pub changed_there : (new : List Item) → IsSpot (before_by cmp) old key place true → ((was : Item) → slice_get old place ≡ Some was → new ≡ set old place (record { key = was.key; values = values_with last value was.values }))
      → IsChanged cmp last key value old new place last
  changed_there new spot is =
      let x = item_at old place (spot.inside refl) in
      subst (λ (t : List Item). IsChanged cmp last key value old t place last) (sym (is x.0 x.1)) (changed_held x.0 (record { key = x.0.key; values = values_with last value x.0.values }) x.1 refl refl spot)
    where
      item_at : (xs : List Item) (i : ℕ) → i < length xs → (x : Item) × (slice_get xs i ≡ Some x)
      item_at [] i lt = absurd (omega (arith, lt))
      item_at (x ∷ xs) zero lt = (x, refl)
      item_at (x ∷ xs) (suc i) lt = item_at xs i (omega (arith, lt))

-- ---- among the leaves

-- what is true of the key and of the keys of the items is true of those of the new ones
pub keys_changed : (cmp : List ℕ → List ℕ → Ordering) (last : Bool) (key value : List ℕ) (old new : List Item) (place : ℕ) (grown : Bool) → IsChanged cmp last key value old new place grown
    → (P : List ℕ → Type 0) → P key → AllByRecursion (λ x. P x.key) old → AllByRecursion (λ x. P x.key) new
keys_changed cmp last key value old new place grown c P here all =
    subst (λ (t : List Item). AllByRecursion (λ x. P x.key) t) (sym c.new_is)
    (⊎_elim
    (λ (is : old ≡ c.front ++ c.back).
    let parts = all_part (λ x. P x.key) c.front c.back (subst (λ (t : List Item). AllByRecursion (λ x. P x.key) t) is all) in
    around parts.0 parts.1)
    (λ (is : (was : Item) × (was.key ≡ key) × (old ≡ c.front ++ was ∷ c.back)).
    let parts = all_part (λ x. P x.key) c.front (is.0 ∷ c.back) (subst (λ (t : List Item). AllByRecursion (λ x. P x.key) t) is.2 all) in
    around parts.0 parts.1.1)
    c.old_is)
  where
    around : AllByRecursion (λ x. P x.key) c.front → AllByRecursion (λ x. P x.key) c.back → AllByRecursion (λ x. P x.key) (c.front ++ c.item ∷ c.back)
    around front back = all_join (λ x. P x.key) c.front (c.item ∷ c.back) front (subst P (sym c.key_is) here, back)

pub leaf_takes_pair : LeafTakesPair
leaf_takes_pair cmp total order last pages root key value leaves levels path id st f items place grown c =
    let done = leaf_revalued cmp total order key (values_with last value) pages root leaves levels path id st f items c.items.ascends (keys_changed cmp last key value f.leaf.leaf.items items place grown c)
    (c.pairs ∙ as_values cmp total order last key value (leaf_pairs f.leaf)) in
    (done.0, done.1 ∙ sym (as_values cmp total order last key value (pairs_of leaves)))
