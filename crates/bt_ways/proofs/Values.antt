-- The pairs of one key among others.
use Rattle.std.proofs.Common.{◌≡◌, ◌≢◌, ℕ, List, [], ◌∷◌, ◌++◌, Bool, true, false, map, refl, ap, ◌∙◌, subst, append_assoc}
use Rattle.std.specs.Cmp.{IsTotalOrder}
use Rattle.std.specs.Ordering.{is_gt, is_lt, ordering_reverse}
use Rattle.std.specs.Prelude.{filter}
use Rattle.std.specs.declared.cmp.Ordering.{Ordering}
use Rattle.std.specs.declared.cmp.Ordering.TheVariants.{Less, Equal, Greater}
use Rattle.std.specs.List.{AllByRecursion}
use Rattle.std.proofs.lemmas.Grind.{flat_map-append}
use Rattle.std.proofs.lemmas.List.{append-nil, map-append}
use Rattle.std.proofs.lemmas.List.Elements.{filter-append}
use Rattle.std.proofs.lemmas.Slice.Eq.{bytes_eq-Decides}
use Rattle.tc_base.specs.declared.seq.Pair.{Pair}
use Rattle.tc_base.specs.Lists.{above, below, pair, values, with_values}
use Rattle.tc_base.specs.Texts.{is_text}
use Rattle.bt_rows.specs.declared.page.LeafAt.{LeafAt}
use Rattle.bt_rows.specs.Orders.{Before, IsOrder, before_by}
use Rattle.bt_rows.specs.Rules.{leaf_pairs, pairs_of}
use Rattle.bt_ways.proofs.Keys.{all_map, all_pairs, clash}

-- these pairs are the ones below a key, those of the key, and those above it
pub record Parts (before : Before) (key : List ℕ) (ps : List Pair) : Type 0 where
  pub front : List Pair
  pub own : List (List ℕ)
  pub back : List Pair
  pub are : ps ≡ front ++ (map (pair key) own ++ back)
  pub low : AllByRecursion (λ p. before p.key key ≡ true) front
  pub high : AllByRecursion (λ p. before key p.key ≡ true) back

text_self : (x : List ℕ) → is_text x x ≡ true
text_self x = (bytes_eq-Decides x x).1 refl

text_other : (x y : List ℕ) → x ≢ y → is_text x y ≡ false
text_other x y ne = go (is_text x y) refl
  where
    go : (b : Bool) → is_text x y ≡ b → is_text x y ≡ false
    go true e = absurd (ne ((bytes_eq-Decides x y).0 e))
    go false e = e

values-append : (ps qs : List Pair) (key : List ℕ) → values (ps ++ qs) key ≡ values ps key ++ values qs key
values-append ps qs key = ap (map (λ (p : Pair). p.value)) (filter-append (λ p. is_text p.key key) ps qs) ∙ map-append (λ (p : Pair). p.value) (filter (λ p. is_text p.key key) ps) (filter (λ p. is_text p.key key) qs)

-- none of other keys
values_none : (ps : List Pair) (key : List ℕ) → AllByRecursion (λ p. p.key ≢ key) ps → values ps key ≡ []
values_none [] key h = refl
values_none (p ∷ ps) key h = rw (text_other p.key key h.0) (values_none ps key h.1)

values_all : (key : List ℕ) (vs : List (List ℕ)) → values (map (pair key) vs) key ≡ vs
values_all key [] = refl
values_all key (v ∷ vs) = rw (text_self key) (ap (λ (t : List (List ℕ)). v ∷ t) (values_all key vs))

module _ (before : Before) (order : IsOrder before) where
  apart_low : (x y : List ℕ) → before x y ≡ true → x ≢ y
  apart_low x y lt e = absurd (clash (before x y) lt (subst (λ z. before x z ≡ false) e (order.strict x)))

  apart_high : (x y : List ℕ) → before y x ≡ true → x ≢ y
  apart_high x y lt e = absurd (clash (before y x) lt (subst (λ z. before z x ≡ false) e (order.strict x)))

  all_low : (key : List ℕ) (ps : List Pair) → AllByRecursion (λ p. before p.key key ≡ true) ps → AllByRecursion (λ p. p.key ≢ key) ps
  all_low key [] h = tt
  all_low key (p ∷ ps) h = (apart_low p.key key h.0, all_low key ps h.1)

  all_high : (key : List ℕ) (ps : List Pair) → AllByRecursion (λ p. before key p.key ≡ true) ps → AllByRecursion (λ p. p.key ≢ key) ps
  all_high key [] h = tt
  all_high key (p ∷ ps) h = (apart_high p.key key h.0, all_high key ps h.1)

  -- values of the key, among pairs below it and pairs above it
  pub values_within : (key : List ℕ) (front within back : List Pair) → AllByRecursion (λ p. before p.key key ≡ true) front → AllByRecursion (λ p. before key p.key ≡ true) back
      → values (front ++ (within ++ back)) key ≡ values within key
  values_within key front within back low high =
      values-append front (within ++ back) key
      ∙ ap (λ (t : List (List ℕ)). t ++ values (within ++ back) key) (values_none front key (all_low key front low))
      ∙ values-append within back key
      ∙ ap (λ (t : List (List ℕ)). values within key ++ t) (values_none back key (all_high key back high))
      ∙ append-nil (values within key)

  pub values_of_parts : (key : List ℕ) (ps : List Pair) (p : Parts before key ps) → values ps key ≡ p.own
  values_of_parts key ps p = ap (λ (t : List Pair). values t key) p.are ∙ values_within key p.front (map (pair key) p.own) p.back p.low p.high ∙ values_all key p.own

-- parts of a row of leaves from those of one leaf
pub parts_around : (before : Before) (key : List ℕ) (front : List LeafAt) (leaf : LeafAt) (back : List LeafAt)
    → AllByRecursion (λ p. before p.key key ≡ true) (pairs_of front) → AllByRecursion (λ p. before key p.key ≡ true) (pairs_of back)
    → Parts before key (leaf_pairs leaf) → Parts before key (pairs_of (front ++ leaf ∷ back))
parts_around before key front leaf back low high p = record {
  front = pairs_of front ++ p.front;
  own = p.own;
  back = p.back ++ pairs_of back;
  are = flat_map-append leaf_pairs front (leaf ∷ back) ∙ ap (λ (t : List Pair). pairs_of front ++ (t ++ pairs_of back)) p.are ∙ rearrange (pairs_of front) p.front (map (pair key) p.own) p.back (pairs_of back);
  low = join (λ p. before p.key key ≡ true) (pairs_of front) p.front low p.low;
  high = join (λ p. before key p.key ≡ true) p.back (pairs_of back) p.high high;
}
  where
    rearrange : (a b c d e : List Pair) → a ++ ((b ++ (c ++ d)) ++ e) ≡ (a ++ b) ++ (c ++ (d ++ e))
    rearrange a b c d e = simp append_assoc

    join : (P : Pair → Type 0) (xs ys : List Pair) → AllByRecursion P xs → AllByRecursion P ys → AllByRecursion P (xs ++ ys)
    join P [] ys h k = k
    join P (x ∷ xs) ys h k = (h.0, join P xs ys h.1 k)

-- ---- other values of one key

all_kept : {X : Type 0} (p : X → Bool) (xs : List X) → AllByRecursion (λ x. p x ≡ true) xs → filter p xs ≡ xs
all_kept p [] h = refl
all_kept {X} p (x ∷ xs) h = rw h.0 (ap (λ (t : List X). x ∷ t) (all_kept p xs h.1))

none_kept : {X : Type 0} (p : X → Bool) (xs : List X) → AllByRecursion (λ x. p x ≡ false) xs → filter p xs ≡ []
none_kept p [] h = refl
none_kept p (x ∷ xs) h = rw h.0 (none_kept p xs h.1)

less_only : (o : Ordering) → is_lt o ≡ true → is_gt o ≡ false
less_only Less e = refl
less_only Equal e = refl
less_only Greater e = absurd (cc)

less_back : (o p : Ordering) → p ≡ ordering_reverse o → is_lt o ≡ true → (is_gt p ≡ true) × (is_lt p ≡ false)
less_back Less p e lt = rw e (refl, refl)
less_back Equal p e lt = absurd (cc)
less_back Greater p e lt = absurd (cc)

not_itself : (o : Ordering) → o ≡ ordering_reverse o → is_gt o ≡ false
not_itself Less e = refl
not_itself Equal e = refl
not_itself Greater e = absurd (cc)

module _ (cmp : List ℕ → List ℕ → Ordering) (total : IsTotalOrder cmp) (order : IsOrder (before_by cmp)) (key : List ℕ) where
  -- pairs below the key
  low_above : (ps : List Pair) → AllByRecursion (λ p. before_by cmp p.key key ≡ true) ps → above cmp ps key ≡ []
  low_above ps h = none_kept (λ (p : Pair). is_gt (cmp p.key key)) ps (all_map (λ p. before_by cmp p.key key ≡ true) (λ p. is_gt (cmp p.key key) ≡ false) ps (λ p lt. less_only (cmp p.key key) lt) h)

  -- pairs above it
  high_below : (ps : List Pair) → AllByRecursion (λ p. before_by cmp key p.key ≡ true) ps → below cmp ps key ≡ []
  high_below ps h = none_kept (λ (p : Pair). is_lt (cmp p.key key)) ps (all_map (λ p. before_by cmp key p.key ≡ true) (λ p. is_lt (cmp p.key key) ≡ false) ps (λ p lt. (less_back (cmp key p.key) (cmp p.key key) (total.antisymm p.key key) lt).1) h)

  high_above : (ps : List Pair) → AllByRecursion (λ p. before_by cmp key p.key ≡ true) ps → above cmp ps key ≡ ps
  high_above ps h = all_kept (λ (p : Pair). is_gt (cmp p.key key)) ps (all_map (λ p. before_by cmp key p.key ≡ true) (λ p. is_gt (cmp p.key key) ≡ true) ps (λ p lt. (less_back (cmp key p.key) (cmp p.key key) (total.antisymm p.key key) lt).0) h)

  -- its own
  own_below : (vs : List (List ℕ)) → below cmp (map (pair key) vs) key ≡ []
  own_below vs = none_kept (λ (p : Pair). is_lt (cmp p.key key)) (map (pair key) vs) (all_pairs (λ k. is_lt (cmp k key) ≡ false) key vs (order.strict key))

  own_above : (vs : List (List ℕ)) → above cmp (map (pair key) vs) key ≡ []
  own_above vs = none_kept (λ (p : Pair). is_gt (cmp p.key key)) (map (pair key) vs) (all_pairs (λ k. is_gt (cmp k key) ≡ false) key vs (not_itself (cmp key key) (total.antisymm key key)))

  -- among pairs below the key and pairs above it
  module _ (front within back : List Pair) (low : AllByRecursion (λ p. before_by cmp p.key key ≡ true) front) (high : AllByRecursion (λ p. before_by cmp key p.key ≡ true) back) where
    below_within : below cmp (front ++ (within ++ back)) key ≡ front ++ below cmp within key
    below_within =
        filter-append (λ (p : Pair). is_lt (cmp p.key key)) front (within ++ back)
        ∙ ap (λ (t : List Pair). t ++ below cmp (within ++ back) key) (all_kept (λ (p : Pair). is_lt (cmp p.key key)) front low)
        ∙ ap (λ (t : List Pair). front ++ t) (filter-append (λ (p : Pair). is_lt (cmp p.key key)) within back)
        ∙ ap (λ (t : List Pair). front ++ (below cmp within key ++ t)) (high_below back high)
        ∙ ap (λ (t : List Pair). front ++ t) (append-nil (below cmp within key))

    above_within : above cmp (front ++ (within ++ back)) key ≡ above cmp within key ++ back
    above_within =
        filter-append (λ (p : Pair). is_gt (cmp p.key key)) front (within ++ back)
        ∙ ap (λ (t : List Pair). t ++ above cmp (within ++ back) key) (low_above front low)
        ∙ filter-append (λ (p : Pair). is_gt (cmp p.key key)) within back
        ∙ ap (λ (t : List Pair). above cmp within key ++ t) (high_above back high)

    with_values_within : (vs : List (List ℕ)) → with_values cmp (front ++ (within ++ back)) key vs ≡ front ++ (with_values cmp within key vs ++ back)
    with_values_within vs =
        ap (λ (t : List Pair). t ++ (map (pair key) vs ++ above cmp (front ++ (within ++ back)) key)) below_within
        ∙ ap (λ (t : List Pair). (front ++ below cmp within key) ++ (map (pair key) vs ++ t)) above_within
        ∙ rearrange front (below cmp within key) (map (pair key) vs) (above cmp within key) back
      where
        rearrange : (a b c d e : List Pair) → (a ++ b) ++ (c ++ (d ++ e)) ≡ a ++ ((b ++ (c ++ d)) ++ e)
        rearrange a b c d e = simp append_assoc

    -- where they are made of those that it had
    pub values_changed_within : (g : List (List ℕ) → List (List ℕ)) → with_values cmp (front ++ (within ++ back)) key (g (values (front ++ (within ++ back)) key)) ≡ front ++ (with_values cmp within key (g (values within key)) ++ back)
    values_changed_within g =
        ap (λ (t : List (List ℕ)). with_values cmp (front ++ (within ++ back)) key (g t)) (values_within (before_by cmp) order key front within back low high) ∙ with_values_within (g (values within key))

  -- in the place of its own
  with_values_parts : (ps : List Pair) (p : Parts (before_by cmp) key ps) (vs : List (List ℕ)) → with_values cmp ps key vs ≡ p.front ++ (map (pair key) vs ++ p.back)
  with_values_parts ps p vs =
      ap (λ (t : List Pair). with_values cmp t key vs) p.are
      ∙ with_values_within p.front (map (pair key) p.own) p.back p.low p.high vs
      ∙ ap (λ (t : List Pair). p.front ++ ((t ++ (map (pair key) vs ++ above cmp (map (pair key) p.own) key)) ++ p.back)) (own_below p.own)
      ∙ ap (λ (t : List Pair). p.front ++ ((map (pair key) vs ++ t) ++ p.back)) (own_above p.own)
      ∙ ap (λ (t : List Pair). p.front ++ (t ++ p.back)) (append-nil (map (pair key) vs))

  -- what its values become
  module _ (become : List (List ℕ) → List (List ℕ)) where
    -- the pairs with that
    abbrev pub revalued : List Pair → List Pair
    revalued ps = with_values cmp ps key (become (values ps key))

    pub revalued_within : (front within back : List Pair) → AllByRecursion (λ p. before_by cmp p.key key ≡ true) front → AllByRecursion (λ p. before_by cmp key p.key ≡ true) back
        → revalued (front ++ (within ++ back)) ≡ front ++ (revalued within ++ back)
    revalued_within front within back low high =
        ap (λ (t : List (List ℕ)). with_values cmp (front ++ (within ++ back)) key (become t)) (values_within (before_by cmp) order key front within back low high)
        ∙ with_values_within front within back low high (become (values within key))

    pub revalued_parts : (ps : List Pair) (p : Parts (before_by cmp) key ps) → revalued ps ≡ p.front ++ (map (pair key) (become p.own) ++ p.back)
    revalued_parts ps p = ap (λ (t : List (List ℕ)). with_values cmp ps key (become t)) (values_of_parts (before_by cmp) order key ps p) ∙ with_values_parts ps p (become p.own)
