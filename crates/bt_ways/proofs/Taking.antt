-- Pairs that go out of a leaf.
use Rattle.std.proofs.Common.{◌≡◌, ◌⊎◌, ℕ, ◌+◌, ◌-◌, ◌<◌, ◌≤◌, append-nil, append_assoc, length-drop, suc, List, [], ◌∷◌, ◌++◌, Bool, true, false, Some, arith, length, length-append, map, drop, refl, set, sym, ap, ◌∙◌, subst, inl, inr, ⊎_elim}
use Rattle.std.proofs.lemmas.Grind.{flat_map-append}
use Rattle.std.proofs.lemmas.List.{drop_at, length-map, set_at, take_at}
use Rattle.std.specs.Cmp.{IsTotalOrder}
use Rattle.std.specs.List.{AllByRecursion, remove}
use Rattle.std.specs.Prelude.{slice_get}
use Rattle.std.specs.declared.cmp.Ordering.{Ordering}
use Rattle.tc_base.specs.Lists.{pair, values}
use Rattle.tc_base.specs.declared.seq.Pair.{Pair}
use Rattle.bt_page.specs.Pages.{HasValue}
use Rattle.bt_page.specs.declared.page.Item.{Item}
use Rattle.bt_rows.specs.Orders.{Before, IsOrder, before_by}
use Rattle.bt_rows.specs.Rules.{Ascends, item_pairs, leaf_pairs, pairs_of}
use Rattle.bt_ways.specs.Changes.{AreItems, IsLeft, IsTaken, LeafLosesPairs, items_pairs, removed, values_without}
use Rattle.bt_ways.specs.Searches.{IsSpot}
use Rattle.bt_ways.proofs.Keys.{all_join, all_part}
use Rattle.bt_ways.proofs.Changing.{ascends_behind, ascends_put, pairs_count}
use Rattle.bt_ways.proofs.Revaluing.{leaf_revalued}
use Rattle.bt_ways.proofs.Spots.{Around, around_held, around_none, key_there, parts_of_around}
use Rattle.bt_ways.proofs.Values.{Parts, revalued, revalued_parts}

as_values : (cmp : List ℕ → List ℕ → Ordering) (total : IsTotalOrder cmp) (order : IsOrder (before_by cmp)) (all : Bool) (key : List ℕ) (ps : List Pair) → removed cmp all key ps ≡ revalued cmp total order key (values_without all) ps
as_values cmp total order true key ps = refl
as_values cmp total order false key ps = refl

-- ---- in a leaf

ascends_without : (before : Before) (front its back : List Item) → Ascends before (front ++ (its ++ back)) → Ascends before (front ++ back)
ascends_without before [] its back asc = ascends_behind before its back asc
ascends_without before (x ∷ front) its back asc =
    let parts = all_part (λ y. before x.key y.key ≡ true) front (its ++ back) asc.0 in
    let behind = all_part (λ y. before x.key y.key ≡ true) its back parts.1 in
    (all_join (λ y. before x.key y.key ≡ true) front back parts.0 behind.1, ascends_without before front its back asc.1)

module _ (cmp : List ℕ → List ℕ → Ordering) (total : IsTotalOrder cmp) (order : IsOrder (before_by cmp)) (all : Bool) (key : List ℕ) (old : List Item) (place : ℕ) (held : AreItems cmp old) where
  taken_around : (its : List Item) (vs : List (List ℕ)) (a : Around (before_by cmp) key old place its vs) (left : List Item) (gone : ℕ) → IsLeft its left → items_pairs left ≡ map (pair key) (values_without all vs)
      → Ascends (before_by cmp) (a.front ++ (left ++ a.back)) → AllByRecursion HasValue left → length (values_without all vs) + gone ≡ length vs
      → IsTaken cmp all key old (a.front ++ (left ++ a.back)) gone
  taken_around its vs a left gone left_is own ascends some fewer =
      let pairs : items_pairs (a.front ++ (left ++ a.back)) ≡ items_pairs a.front ++ (map (pair key) (values_without all vs) ++ items_pairs a.back) =
      flat_map-append item_pairs a.front (left ++ a.back)
      ∙ ap (λ (t : List Pair). items_pairs a.front ++ t) (flat_map-append item_pairs left a.back ∙ ap (λ (t : List Pair). t ++ items_pairs a.back) own) in
      let parts : Parts (before_by cmp) key (items_pairs old) = parts_of_around (before_by cmp) key old place its vs a in
      let has = all_part HasValue a.front (its ++ a.back) (subst (λ (t : List Item). AllByRecursion HasValue t) a.are held.some) in
      record {
        front = a.front;
        its = its;
        left = left;
        back = a.back;
        old_is = a.are;
        new_is = refl;
        left_is = left_is;
        items = record { ascends = ascends; some = all_join HasValue a.front (left ++ a.back) has.0 (all_join HasValue left a.back some (all_part HasValue its a.back has.1).1) };
        pairs = pairs ∙ sym (as_values cmp total order all key (items_pairs old) ∙ revalued_parts cmp total order key (values_without all) (items_pairs old) parts);
        count = omega (arith, pairs_count key (items_pairs a.front) (values_without all vs) (items_pairs a.back) pairs, pairs_count key (items_pairs a.front) vs (items_pairs a.back) parts.are, fewer);
      }

  -- a key that isn't held
  pub taken_none : IsSpot (before_by cmp) old key place false → IsTaken cmp all key old old 0
  taken_none spot =
      let a : Around (before_by cmp) key old place [] [] = around_none (before_by cmp) order key old place held.ascends spot in
      subst (λ (t : List Item). IsTaken cmp all key old t 0) (sym a.are)
      (taken_around [] [] a [] 0 (inl refl) (own all) (subst (λ (t : List Item). Ascends (before_by cmp) t) a.are held.ascends) tt (none all))
    where
      own : (b : Bool) → [] ≡ map (pair key) (values_without b [])
      own true = refl
      own false = refl

      none : (b : Bool) → length (values_without b []) + 0 ≡ 0
      none true = refl
      none false = refl

  module _ (was : Item) (at : slice_get old place ≡ Some was) (spot : IsSpot (before_by cmp) old key place true) where
    -- with all its values
    pub taken_whole : (new : List Item) (gone : ℕ) → new ≡ remove old place → gone ≡ length was.values → ((all ≡ false) × (gone ≤ 1)) ⊎ (all ≡ true) → IsTaken cmp all key old new gone
    taken_whole new gone is count whole =
        let none : values_without all was.values ≡ [] = nothing all was.values count whole in
        let a : Around (before_by cmp) key old place (was ∷ []) was.values = around_held (before_by cmp) order key old place was at held.ascends spot in
        subst (λ (t : List Item). IsTaken cmp all key old t gone) (take_out a.front a.back a.are a.at ∙ sym is)
        (taken_around (was ∷ []) was.values a [] gone (inl refl) (sym (ap (map (pair key)) none)) (ascends_without (before_by cmp) a.front (was ∷ []) a.back (subst (λ (t : List Item). Ascends (before_by cmp) t) a.are held.ascends)) tt
        (ap (λ (t : List (List ℕ)). length t + gone) none ∙ omega (arith, count)))
      where
        nothing : (b : Bool) (vs : List (List ℕ)) → gone ≡ length vs → ((b ≡ false) × (gone ≤ 1)) ⊎ (b ≡ true) → values_without b vs ≡ []
        nothing true vs e w = refl
        nothing false [] e w = refl
        nothing false (v ∷ []) e w = refl
        nothing false (u ∷ v ∷ vs) e w = ⊎_elim (λ (few : (false ≡ false) × (gone ≤ 1)). absurd (omega (arith, e, few.1))) (λ (is : false ≡ true). absurd (cc)) w

        take_out : (front back : List Item) → old ≡ front ++ was ∷ back → length front ≡ place → front ++ back ≡ remove old place
        take_out front back e at = sym (
            ap (λ (t : List Item). remove t place) e
            ∙ ap (λ (t : List Item). t ++ drop (suc place) (front ++ was ∷ back)) (take_at front (was ∷ back) place at)
            ∙ ap (λ (t : List Item). front ++ drop (suc place) t) (sym (append_assoc front (was ∷ []) back))
            ∙ ap (λ (t : List Item). front ++ t) (drop_at (front ++ was ∷ []) back (suc place) (omega (arith, at, length-append front (was ∷ [])))))

    -- with its first one
    pub taken_first : (new : List Item) → new ≡ set old place (record { key = was.key; values = drop 1 was.values }) → all ≡ false → 1 < length was.values → IsTaken cmp all key old new 1
    taken_first new is one lt =
        let less : values_without all was.values ≡ drop 1 was.values = ap (λ (b : Bool). values_without b was.values) one in
        let a : Around (before_by cmp) key old place (was ∷ []) was.values = around_held (before_by cmp) order key old place was at held.ascends spot in
        let its : was.key ≡ key = key_there (before_by cmp) order key old place was at spot in
        let item : Item = record { key = was.key; values = drop 1 was.values } in
        let left : length (drop 1 was.values) ≡ length was.values - 1 = length-drop 1 was.values in
        subst (λ (t : List Item). IsTaken cmp all key old t 1) (sym (is ∙ ap (λ (t : List Item). set t place item) a.are ∙ set_at a.front was a.back item place a.at))
        (taken_around (was ∷ []) was.values a (item ∷ []) 1 (inr (was, refl, refl))
        (append-nil (map (pair was.key) (drop 1 was.values)) ∙ ap (λ (k : List ℕ). map (pair k) (drop 1 was.values)) its ∙ sym (ap (map (pair key)) less))
        (ascends_put (before_by cmp) a.front (was ∷ []) a.back item (subst (λ (t : List Item). Ascends (before_by cmp) t) a.are held.ascends)
        (subst (λ (k : List ℕ). AllByRecursion (λ x. before_by cmp x.key k ≡ true) a.front) (sym its) a.low) (subst (λ (k : List ℕ). AllByRecursion (λ x. before_by cmp k x.key ≡ true) a.back) (sym its) a.high))
        (omega (arith, left, lt), tt)
        (omega (arith, ap length less, left, lt)))

-- ---- what it leaves

-- where none went all is as it was
pub taken_same : (cmp : List ℕ → List ℕ → Ordering) (all : Bool) (key : List ℕ) (old new : List Item) (gone : ℕ) → AreItems cmp old → IsTaken cmp all key old new gone → gone ≡ 0 → new ≡ old
taken_same cmp all key old new gone held t none =
    let has = all_part HasValue t.front (t.its ++ t.back) (subst (λ (xs : List Item). AllByRecursion HasValue xs) t.old_is held.some) in
    let its = (all_part HasValue t.its t.back has.1).0 in
    let less : length (items_pairs t.left) ≡ length (items_pairs t.its) = omega (arith, none, t.count, ap (λ (xs : List Item). length (items_pairs xs)) t.old_is, ap (λ (xs : List Item). length (items_pairs xs)) t.new_is, around t.front t.its t.back, around t.front t.left t.back) in
    t.new_is ∙ ap (λ (xs : List Item). t.front ++ (xs ++ t.back)) (same t.its t.left its t.left_is less) ∙ sym t.old_is
  where
    around : (front xs back : List Item) → length (items_pairs (front ++ (xs ++ back))) ≡ length (items_pairs front) + (length (items_pairs xs) + length (items_pairs back))
    around front xs back =
        ap length (flat_map-append item_pairs front (xs ++ back)) ∙ length-append (items_pairs front) (items_pairs (xs ++ back))
        ∙ ap (λ (n : ℕ). length (items_pairs front) + n) (ap length (flat_map-append item_pairs xs back) ∙ length-append (items_pairs xs) (items_pairs back))

    one : (x : Item) → length (items_pairs (x ∷ [])) ≡ length x.values
    one x = ap length (append-nil (item_pairs x)) ∙ length-map x.values (pair x.key)

    nothing : (xs : List Item) → AllByRecursion HasValue xs → length (items_pairs xs) ≡ 0 → xs ≡ []
    nothing [] some e = refl
    nothing (x ∷ xs) some e = absurd (omega (arith, some.0, e, length-append (item_pairs x) (items_pairs xs), length-map x.values (pair x.key)))

    same : (its left : List Item) → AllByRecursion HasValue its → IsLeft its left → length (items_pairs left) ≡ length (items_pairs its) → left ≡ its
    same its left some is e = ⊎_elim
        (λ (is : left ≡ []). is ∙ sym (nothing its some (sym e ∙ ap (λ (xs : List Item). length (items_pairs xs)) is)))
        (λ (is : (was : Item) × (its ≡ was ∷ []) × (left ≡ record { key = was.key; values = drop 1 was.values } ∷ [])).
        let has = subst (λ (xs : List Item). AllByRecursion HasValue xs) is.1 some in
        absurd (omega (arith, has.0, e, ap (λ (xs : List Item). length (items_pairs xs)) is.1, ap (λ (xs : List Item). length (items_pairs xs)) is.2, one is.0, one (record { key = is.0.key; values = drop 1 is.0.values }), length-drop 1 is.0.values)))
        is

-- what is true of the keys stays true
pub keys_taken : (cmp : List ℕ → List ℕ → Ordering) (all : Bool) (key : List ℕ) (old new : List Item) (gone : ℕ) → IsTaken cmp all key old new gone
    → (P : List ℕ → Type 0) → AllByRecursion (λ x. P x.key) old → AllByRecursion (λ x. P x.key) new
keys_taken cmp all key old new gone t P h =
    let parts = all_part (λ x. P x.key) t.front (t.its ++ t.back) (subst (λ (xs : List Item). AllByRecursion (λ x. P x.key) xs) t.old_is h) in
    let own = all_part (λ x. P x.key) t.its t.back parts.1 in
    subst (λ (xs : List Item). AllByRecursion (λ x. P x.key) xs) (sym t.new_is) (all_join (λ x. P x.key) t.front (t.left ++ t.back) parts.0 (all_join (λ x. P x.key) t.left t.back (kept own.0) own.1))
  where
    kept : AllByRecursion (λ x. P x.key) t.its → AllByRecursion (λ x. P x.key) t.left
    kept h = ⊎_elim
        (λ (is : t.left ≡ []). subst (λ (xs : List Item). AllByRecursion (λ x. P x.key) xs) (sym is) tt)
        (λ (is : (was : Item) × (t.its ≡ was ∷ []) × (t.left ≡ record { key = was.key; values = drop 1 was.values } ∷ [])).
        let here = subst (λ (xs : List Item). AllByRecursion (λ x. P x.key) xs) is.1 h in
        subst (λ (xs : List Item). AllByRecursion (λ x. P x.key) xs) (sym is.2) (here.0, tt))
        t.left_is

-- ---- among the leaves

pub leaf_loses_pairs : LeafLosesPairs
leaf_loses_pairs cmp total order all pages root key leaves levels path id st f items gone t =
    let done = leaf_revalued cmp total order key (values_without all) pages root leaves levels path id st f items t.items.ascends (λ P here h. keys_taken cmp all key f.leaf.leaf.items items gone t P h)
    (t.pairs ∙ as_values cmp total order all key (leaf_pairs f.leaf)) in
    (done.0, done.1 ∙ sym (as_values cmp total order all key (pairs_of leaves)))
