-- The places of items in order.
use Rattle.std.proofs.Common.{◌≡◌, ◌≢◌, ◌⊎◌, ℕ, zero, suc, ◌+◌, ◌-◌, ◌<◌, ◌≤◌, min, List, [], ◌∷◌, ◌++◌, Bool, true, false, Option, Some, None, length, map, filter, refl, sym, ap, ◌∙◌, subst, inl, inr, ⊎_elim, arith, append_assoc, length-append}
use Rattle.std.specs.Prelude.{option_map, nat_lt, if◌then◌else◌}
use Rattle.std.specs.Cmp.{IsTotalOrder, nat_cmp_is}
use Rattle.std.specs.List.{AllByRecursion, flat_map}
use Rattle.std.specs.Ordering.{is_ge, is_gt, is_lt, nat_cmp, ordering_reverse, ordering_then}
use Rattle.std.specs.declared.cmp.Ordering.{Ordering}
use Rattle.std.specs.declared.cmp.Ordering.TheVariants.{Less, Equal, Greater}
use Rattle.std.proofs.lemmas.Bool.{cases_lt}
use Rattle.std.proofs.lemmas.Bool.Decides.{nat_tests}
use Rattle.std.proofs.lemmas.Grind.{flat_map-append}
use Rattle.std.proofs.lemmas.List.{append-nil, map-append}
use Rattle.std.proofs.lemmas.List.Elements.{filter-append}
use Rattle.std.proofs.lemmas.Slice.Eq.{bytes_eq-Decides}
use Rattle.tc_base.specs.Lists.{above, from_on, pair, values}
use Rattle.tc_base.specs.Texts.{is_text}
use Rattle.tc_base.specs.declared.seq.Pair.{Pair}
use Rattle.bt_page.specs.Pages.{HasValue}
use Rattle.bt_page.specs.declared.page.Item.{Item}
use Rattle.bt_rows.specs.Orders.{Before, IsOrder, before_by}
use Rattle.bt_rows.specs.Rules.{Ascends, item_pairs}
use Rattle.bt_ways.specs.Changes.{AreItems, items_pairs}
use Rattle.bt_ways.proofs.Keys.{all_flat, all_items, all_map, all_part, either}
use Rattle.bt_ways.proofs.Values.{values_of_parts}
use Rattle.bt_tree.specs.Showing.{end_of as last_item, item_first, items_below}
use Rattle.bt_tree.proofs.Fronts.{before_of, first_of, last_of}
use Rattle.bt_tree.proofs.Kepts.{ascends_kept, keeps_all, keeps_first, keeps_none, kept_all, pairs_kept, skips_first}
use Rattle.bt_cursor.specs.Places.{end_first, end_in, end_last, end_of, ends_above, ends_before, first_place, head_of, last_number, last_place, number_behind, number_in_front, number_last, place, place_before, place_behind, place_cmp, place_from, places, places_behind}
use Rattle.bt_cursor.specs.declared.cursor.Place.{Place}
use Rattle.bt_cursor.specs.declared.takers.End.{End}

-- ---- values of keys

text_self : (x : List ℕ) → is_text x x ≡ true
text_self x = (bytes_eq-Decides x x).1 refl

text_other : (x y : List ℕ) → x ≢ y → is_text x y ≡ false
text_other x y ne = go (is_text x y) refl
  where
    go : (b : Bool) → is_text x y ≡ b → is_text x y ≡ false
    go true e = absurd (ne ((bytes_eq-Decides x y).0 e))
    go false e = e

values-append : (ps qs : List Pair) (key : List ℕ) → values (ps ++ qs) key ≡ values ps key ++ values qs key
values-append ps qs key = ap (map (λ (p : Pair). p.value)) (filter-append (λ p. is_text p.key key) ps qs) ∙ map-append (λ (p : Pair). p.value) (filter (λ p. is_text p.key key) ps) (filter (λ p. is_text p.key key) qs)

values_own : (key : List ℕ) (vs : List (List ℕ)) → values (map (pair key) vs) key ≡ vs
values_own key [] = refl
values_own key (v ∷ vs) = rw (text_self key) (ap (λ (t : List (List ℕ)). v ∷ t) (values_own key vs))

values_other : (k key : List ℕ) (vs : List (List ℕ)) → k ≢ key → values (map (pair k) vs) key ≡ []
values_other k key [] ne = refl
values_other k key (v ∷ vs) ne = rw (text_other k key ne) (values_other k key vs ne)

-- ---- places by items

-- those of a key's values, from a number on
abbrev pub numbered : List ℕ → ℕ → List (List ℕ) → List Place
numbered k n [] = []
numbered k n (v ∷ vs) = place k n ∷ numbered k (suc n) vs

abbrev item_places : Item → List Place
item_places x = numbered x.key 0 x.values

abbrev pub row : List Item → List Place
row xs = flat_map item_places xs

own_places : (front : List Pair) (k : List ℕ) (vs : List (List ℕ)) (rest : List Pair) (n : ℕ) → length (values front k) ≡ n → places_behind front (map (pair k) vs ++ rest) ≡ numbered k n vs ++ places_behind (front ++ map (pair k) vs) rest
own_places front k [] rest n e = ap (λ (z : List Pair). places_behind z rest) (sym (append-nil front))
own_places front k (v ∷ vs) rest n e =
    ap (λ (m : ℕ). place k m ∷ places_behind (front ++ pair k v ∷ []) (map (pair k) vs ++ rest)) e
    ∙ ap (λ (z : List Place). place k n ∷ z) (own_places (front ++ pair k v ∷ []) k vs rest (suc n) more)
    ∙ ap (λ (z : List Pair). place k n ∷ (numbered k (suc n) vs ++ places_behind z rest)) (append_assoc front (pair k v ∷ []) (map (pair k) vs))
  where
    more : length (values (front ++ pair k v ∷ []) k) ≡ suc n
    more = omega (arith, e, ap length (values-append front (pair k v ∷ []) k), length-append (values front k) (values (pair k v ∷ []) k), ap length (values_own k (v ∷ [])))

module _ (before : Before) (order : IsOrder before) where
  apart : (x y : List ℕ) → before x y ≡ true → x ≢ y
  apart x y lt e = clash (before x x) (subst (λ (z : List ℕ). before x z ≡ true) (sym e) lt) (order.strict x)
    where
      clash : (b : Bool) → b ≡ true → b ≡ false → ⊥
      clash b t f = cc

  all_places : (front : List Pair) (xs : List Item) → AllByRecursion (λ x. values front x.key ≡ []) xs → Ascends before xs → places_behind front (items_pairs xs) ≡ row xs
  all_places front [] none asc = refl
  all_places front (x ∷ xs) none asc =
      own_places front x.key x.values (items_pairs xs) 0 (ap length none.0)
      ∙ ap (λ (z : List Place). item_places x ++ z) (all_places (front ++ item_pairs x) xs (later xs none.1 asc.0) asc.1)
    where
      later : (ys : List Item) → AllByRecursion (λ y. values front y.key ≡ []) ys → AllByRecursion (λ y. before x.key y.key ≡ true) ys → AllByRecursion (λ y. values (front ++ item_pairs x) y.key ≡ []) ys
      later [] h k = tt
      later (y ∷ ys) h k = (values-append front (item_pairs x) y.key ∙ (λ j. h.0 j ++ values_other x.key y.key x.values (apart x.key y.key k.0) j), later ys h.1 k.1)

  pub places_row : (xs : List Item) → Ascends before xs → places (items_pairs xs) ≡ row xs
  places_row xs asc = all_places [] xs (none xs) asc
    where
      none : (ys : List Item) → AllByRecursion (λ y. values [] y.key ≡ []) ys
      none [] = tt
      none (y ∷ ys) = (refl, none ys)

-- ---- the ends of a list

end_joined : {A : Type 0} (xs ys : List A) (x : A) → end_in ys ≡ Some x → end_in (xs ++ ys) ≡ Some x
end_joined xs [] x e = absurd (cc)
end_joined [] (y ∷ ys) x e = e
end_joined (z ∷ []) (y ∷ ys) x e = e
end_joined (z ∷ w ∷ xs) (y ∷ ys) x e = end_joined (w ∷ xs) (y ∷ ys) x e

-- as a place with a number of its own
abbrev pub first_value : Option End → Option Place
first_value end = option_map (λ e. place e.key 0) end

abbrev pub last_value : Option End → Option Place
last_value end = option_map (λ e. place e.key e.last) end

end_numbered : (k : List ℕ) (n : ℕ) (v : List ℕ) (vs : List (List ℕ)) → end_in (numbered k n (v ∷ vs)) ≡ Some (place k (n + length vs))
end_numbered k n v [] = ap (λ (m : ℕ). Some (place k m)) (omega arith)
end_numbered k n v (w ∷ vs) = end_numbered k (suc n) w vs ∙ ap (λ (m : ℕ). Some (place k m)) (omega arith)

end_item : (x : Item) → HasValue x → end_in (item_places x) ≡ Some (place x.key (length x.values - 1))
end_item x some = go x.values some
  where
    go : (vs : List (List ℕ)) → 0 < length vs → end_in (numbered x.key 0 vs) ≡ Some (place x.key (length vs - 1))
    go [] lt = absurd (omega (arith, lt))
    go (v ∷ vs) lt = end_numbered x.key 0 v vs ∙ ap (λ (m : ℕ). Some (place x.key m)) (omega arith)

-- the last place of a row is that of its last item
end_row : (xs : List Item) → AllByRecursion HasValue xs → end_in (row xs) ≡ last_value (option_map end_of (last_item xs))
end_row [] some = refl
end_row (x ∷ []) some = ap (λ (z : List Place). end_in z) (append-nil (item_places x)) ∙ end_item x some.0
end_row (x ∷ y ∷ xs) some = go (end_in (row (y ∷ xs))) refl (end_row (y ∷ xs) some.1)
  where
    none : (z : Item) (ys : List Item) → last_value (option_map end_of (last_item (z ∷ ys))) ≡ None → ⊥
    none z [] e = cc
    none z (w ∷ ws) e = none w ws e

    go : (o : Option Place) → end_in (row (y ∷ xs)) ≡ o → end_in (row (y ∷ xs)) ≡ last_value (option_map end_of (last_item (y ∷ xs))) → end_in (row (x ∷ y ∷ xs)) ≡ last_value (option_map end_of (last_item (y ∷ xs)))
    go None e rest = absurd (none y xs (sym rest ∙ e))
    go (Some p) e rest = end_joined (item_places x) (row (y ∷ xs)) p e ∙ sym e ∙ rest

head_row : (xs : List Item) → AllByRecursion HasValue xs → head_of (row xs) ≡ option_map (λ x. place x.key 0) (head_of xs)
head_row [] some = refl
head_row (x ∷ xs) some = go x.values some.0
  where
    go : (vs : List (List ℕ)) → 0 < length vs → head_of (numbered x.key 0 vs ++ row xs) ≡ Some (place x.key 0)
    go [] lt = absurd (omega (arith, lt))
    go (v ∷ vs) lt = refl

module _ (cmp : List ℕ → List ℕ → Ordering) (order : IsOrder (before_by cmp)) where
  first_item : (xs : List Item) → AreItems cmp xs → item_first (items_pairs xs) ≡ head_of xs
  first_item [] are = refl
  first_item (x ∷ xs) are = first_of cmp order x xs are

  heads : (xs : List Item) → AreItems cmp xs → head_of (row xs) ≡ first_value (end_first (items_pairs xs))
  heads xs are = head_row xs are.some ∙ both (head_of xs) ∙ ap (λ (o : Option Item). first_value (option_map end_of o)) (sym (first_item xs are))
    where
      both : (o : Option Item) → option_map (λ x. place x.key 0) o ≡ first_value (option_map end_of o)
      both None = refl
      both (Some x) = refl

  pub first_is : (xs : List Item) → AreItems cmp xs → first_place (items_pairs xs) ≡ first_value (end_first (items_pairs xs))
  first_is xs are = ap (λ (z : List Place). head_of z) (places_row (before_by cmp) order xs are.ascends) ∙ heads xs are

  pub last_is : (xs : List Item) → AreItems cmp xs → last_place (items_pairs xs) ≡ last_value (end_last (items_pairs xs))
  last_is xs are =
      ap (λ (z : List Place). end_in z) (places_row (before_by cmp) order xs are.ascends)
      ∙ end_row xs are.some
      ∙ ap (λ (o : Option Item). last_value (option_map end_of o)) (sym (last_of cmp order xs are))

-- ---- around a key

-- the item of a key with these values, if it has any
abbrev own_items : List ℕ → List (List ℕ) → List Item
own_items key [] = []
own_items key (v ∷ vs) = record { key = key; values = v ∷ vs } ∷ []

pub record Split (before : Before) (key : List ℕ) (xs : List Item) : Type 0 where
  pub front : List Item
  pub own : List (List ℕ)
  pub back : List Item
  pub are : xs ≡ front ++ (own_items key own ++ back)
  pub low : AllByRecursion (λ x. before x.key key ≡ true) front
  pub high : AllByRecursion (λ x. before key x.key ≡ true) back

module _ (before : Before) (order : IsOrder before) (key : List ℕ) where
  behind_on : (x : List ℕ) (xs : List Item) → before key x ≡ true → AllByRecursion (λ y. before x y.key ≡ true) xs → AllByRecursion (λ y. before key y.key ≡ true) xs
  behind_on x [] lt h = tt
  behind_on x (y ∷ ys) lt h = (order.trans key x y.key lt h.0, behind_on x ys lt h.1)

  split : (xs : List Item) → Ascends before xs → AllByRecursion HasValue xs → Split before key xs
  split [] asc some = record { front = []; own = []; back = []; are = refl; low = tt; high = tt }
  split (x ∷ xs) asc some =
      ⊎_elim (λ (lt : before x.key key ≡ true). in_front lt (split xs asc.1 some.1))
      (λ (notlow : before x.key key ≡ false).
      ⊎_elim (λ (lt : before key x.key ≡ true). is_behind lt) (λ (nothigh : before key x.key ≡ false). here (order.total x.key key notlow nothigh)) (either (before key x.key)))
      (either (before x.key key))
    where
      in_front : before x.key key ≡ true → Split before key xs → Split before key (x ∷ xs)
      in_front lt s = record { front = x ∷ s.front; own = s.own; back = s.back; are = ap (λ (z : List Item). x ∷ z) s.are; low = (lt, s.low); high = s.high }

      is_behind : before key x.key ≡ true → Split before key (x ∷ xs)
      is_behind lt = record { front = []; own = []; back = x ∷ xs; are = refl; low = tt; high = (lt, behind_on x.key xs lt asc.0) }

      here : x.key ≡ key → Split before key (x ∷ xs)
      here e = record {
        front = [];
        own = x.values;
        back = xs;
        are = ap (λ (z : List Item). z ++ xs) (same_item x.values some.0);
        low = tt;
        high = subst (λ (k : List ℕ). AllByRecursion (λ y. before k y.key ≡ true) xs) e asc.0;
      }
        where
          same_item : (vs : List (List ℕ)) → 0 < length vs → record x { values = vs } ∷ [] ≡ own_items key vs
          same_item [] lt = absurd (omega (arith, lt))
          same_item (v ∷ vs) lt = λ j. record { key = e j; values = v ∷ vs } ∷ []

own_row : (key : List ℕ) (own : List (List ℕ)) → row (own_items key own) ≡ numbered key 0 own
own_row key [] = refl
own_row key (v ∷ vs) = append-nil (numbered key 0 (v ∷ vs))

-- ---- orderings

less_of : (o : Ordering) → is_lt o ≡ true → o ≡ Less
less_of Less e = refl
less_of Equal e = absurd cc
less_of Greater e = absurd cc

equal_of : (o : Ordering) → o ≡ ordering_reverse o → o ≡ Equal
equal_of Less e = absurd cc
equal_of Equal e = refl
equal_of Greater e = absurd cc

numbers_less : (m n : ℕ) → m < n → nat_cmp m n ≡ Less
numbers_less m n lt = sym (nat_cmp_is m n Less lt)

numbers_same : (m n : ℕ) → m ≡ n → nat_cmp m n ≡ Equal
numbers_same m n e = sym (nat_cmp_is m n Equal e)

numbers_more : (m n : ℕ) → n < m → nat_cmp m n ≡ Greater
numbers_more m n lt = sym (nat_cmp_is m n Greater lt)

-- ---- numbers of values

behind_some : (number last n : ℕ) → number_behind number (Some last) ≡ Some n → (number < last) × (n ≡ number + 1)
behind_some number last n e = ⊎_elim (λ (less : number < last). (
  less,
  let test : nat_lt number last ≡ true = grind (arith, nat_tests) in
      let f : Some (number + 1) ≡ Some n = sym (ap (λ (b : Bool). if b then Some (number + 1) else None) test) ∙ e in
      cc,
)) (λ (more : last ≤ number). absurd (
    let test : nat_lt number last ≡ false = grind (arith, nat_tests) in
    let f : None ≡ Some n = sym (ap (λ (b : Bool). if b then Some (number + 1) else None) test) ∙ e in
    cc
    )) (cases_lt number last)

behind_none : (number last : ℕ) → number_behind number (Some last) ≡ None → last ≤ number
behind_none number last e = ⊎_elim (λ (less : number < last). absurd (
    let test : nat_lt number last ≡ true = grind (arith, nat_tests) in
    let f : Some (number + 1) ≡ None = sym (ap (λ (b : Bool). if b then Some (number + 1) else None) test) ∙ e in
    cc
    )) (λ (more : last ≤ number). omega (arith, more)) (cases_lt number last)

min_is : (m n : ℕ) → (min m n ≤ m) × (min m n ≤ n) × ((m ≤ min m n) ⊎ (n ≤ min m n))
min_is m n = ⊎_elim (λ (less : m < n). let e : min m n ≡ m = omega (arith, less) in (omega (arith, e), omega (arith, e, less), inl (omega (arith, e)))) (λ (more : n ≤ m). let e : min m n ≡ n = omega (arith, more) in (omega (arith, e, more), omega (arith, e), inr (omega (arith, e)))) (cases_lt m n)

front_is : (number last n : ℕ) → number_in_front number (Some last) ≡ Some n → (n < number) × (n ≤ last) × ((number ≤ suc n) ⊎ (last ≤ n))
front_is zero last n e = absurd cc
front_is (suc m) last n e =
    let same : min m last ≡ n = cc in
    let k = min_is m last in
    (omega (arith, same, k.0), omega (arith, same, k.1), ⊎_elim (λ (a : m ≤ min m last). inl (omega (arith, a, same))) (λ (b : last ≤ min m last). inr (omega (arith, b, same))) k.2)

front_none : (number last : ℕ) → number_in_front number (Some last) ≡ None → number ≤ 0
front_none zero last e = omega arith
front_none (suc m) last e = absurd cc

-- ---- numbers that pass a test from one on, or up to one

module _ (key : List ℕ) (test : Place → Bool) (c : ℕ) where
  module _ (low : (m : ℕ) → m < c → test (place key m) ≡ false) (high : (m : ℕ) → c ≤ m → test (place key m) ≡ true) where
    none_on : (n : ℕ) (vs : List (List ℕ)) → n + length vs ≤ c → filter test (numbered key n vs) ≡ []
    none_on n [] le = refl
    none_on n (v ∷ vs) le = skips_first test (place key n) (numbered key (suc n) vs) (low n (omega (arith, le))) ∙ none_on (suc n) vs (omega (arith, le))

    first_on : (n : ℕ) (vs : List (List ℕ)) (rest : List Place) → n ≤ c → c < n + length vs → head_of (filter test (numbered key n vs) ++ rest) ≡ Some (place key c)
    first_on n [] rest le lt = absurd (omega (arith, le, lt))
    first_on n (v ∷ vs) rest le lt = ⊎_elim (λ (less : n < c). ap (λ (z : List Place). head_of (z ++ rest)) (skips_first test (place key n) (numbered key (suc n) vs) (low n less)) ∙ first_on (suc n) vs rest (omega (arith, less)) (omega (arith, lt))) (λ (more : c ≤ n). ap (λ (z : List Place). head_of (z ++ rest)) (keeps_first test (place key n) (numbered key (suc n) vs) (high n more)) ∙ ap (λ (m : ℕ). Some (place key m)) (omega (arith, le, more))) (cases_lt n c)

  module _ (low : (m : ℕ) → m < c → test (place key m) ≡ true) (high : (m : ℕ) → c ≤ m → test (place key m) ≡ false) where
    none_up : (n : ℕ) (vs : List (List ℕ)) → c ≤ n → filter test (numbered key n vs) ≡ []
    none_up n [] le = refl
    none_up n (v ∷ vs) le = skips_first test (place key n) (numbered key (suc n) vs) (high n le) ∙ none_up (suc n) vs (omega (arith, le))

    last_up : (n : ℕ) (vs : List (List ℕ)) (front : List Place) (r : ℕ) → n ≤ r → r < c → r < n + length vs → (c ≤ suc r) ⊎ (n + length vs ≤ suc r) → end_in (front ++ filter test (numbered key n vs)) ≡ Some (place key r)
    last_up n [] front r le lt within ends = absurd (omega (arith, le, within))
    last_up n (v ∷ vs) front r le lt within ends =
        ap (λ (z : List Place). end_in (front ++ z)) (keeps_first test (place key n) (numbered key (suc n) vs) (low n (omega (arith, le, lt))))
        ∙ ⊎_elim (λ (less : n < r). ap (λ (z : List Place). end_in z) (sym (append_assoc front (place key n ∷ []) (filter test (numbered key (suc n) vs)))) ∙ last_up (suc n) vs (front ++ place key n ∷ []) r (omega (arith, less)) lt (omega (arith, within)) (⊎_elim (λ (a : c ≤ suc r). inl a) (λ (b : n + length (v ∷ vs) ≤ suc r). inr (omega (arith, b))) ends)) (λ (more : r ≤ n). last_here (omega (arith, le, more))) (cases_lt n r)
      where
        last_here : n ≡ r → end_in (front ++ place key n ∷ filter test (numbered key (suc n) vs)) ≡ Some (place key r)
        last_here same =
            ap (λ (z : List Place). end_in (front ++ place key n ∷ z)) (rest same)
            ∙ end_joined front (place key n ∷ []) (place key n) refl
            ∙ ap (λ (m : ℕ). Some (place key m)) same
          where
            empty : (ws : List (List ℕ)) → length ws ≡ 0 → filter test (numbered key (suc n) ws) ≡ []
            empty [] e = refl
            empty (w ∷ ws) e = absurd (omega (arith, e))

            rest : n ≡ r → filter test (numbered key (suc n) vs) ≡ []
            rest same = ⊎_elim (λ (a : c ≤ suc r). none_up (suc n) vs (omega (arith, a, same))) (λ (b : n + length (v ∷ vs) ≤ suc r). empty vs (omega (arith, b, same))) ends

-- ---- places before and behind one

module _ (cmp : List ℕ → List ℕ → Ordering) (total : IsTotalOrder cmp) (order : IsOrder (before_by cmp)) (at : Place) where
  -- the test of places in a row whose keys are all on one side
  module _ (t : Ordering → Bool) where
    abbrev tested : Place → Bool
    tested p = t (place_cmp cmp p at)

    all_numbered : (o : Ordering) (b : Bool) → ((m : Ordering) → t (ordering_then o m) ≡ b) → (k : List ℕ) → cmp k at.key ≡ o → (n : ℕ) (vs : List (List ℕ)) → AllByRecursion (λ p. tested p ≡ b) (numbered k n vs)
    all_numbered o b same k e n [] = tt
    all_numbered o b same k e n (v ∷ vs) = (ap (λ (z : Ordering). t (ordering_then z (nat_cmp n at.number))) e ∙ same (nat_cmp n at.number), all_numbered o b same k e (suc n) vs)

    all_row : (o : Ordering) (b : Bool) → ((m : Ordering) → t (ordering_then o m) ≡ b) → (xs : List Item) → AllByRecursion (λ x. cmp x.key at.key ≡ o) xs → AllByRecursion (λ p. tested p ≡ b) (row xs)
    all_row o b same xs h = all_flat (λ p. tested p ≡ b) item_places xs (all_map (λ x. cmp x.key at.key ≡ o) (λ x. AllByRecursion (λ p. tested p ≡ b) (item_places x)) xs (λ x e. all_numbered o b same x.key e 0 x.values) h)

    own_test : (n : ℕ) → tested (place at.key n) ≡ t (nat_cmp n at.number)
    own_test n = ap (λ (z : Ordering). t (ordering_then z (nat_cmp n at.number))) (equal_of (cmp at.key at.key) (total.antisymm at.key at.key))

  lows : (xs : List Item) → AllByRecursion (λ x. before_by cmp x.key at.key ≡ true) xs → AllByRecursion (λ x. cmp x.key at.key ≡ Less) xs
  lows [] h = tt
  lows (x ∷ xs) h = (less_of (cmp x.key at.key) h.0, lows xs h.1)

  highs : (xs : List Item) → AllByRecursion (λ x. before_by cmp at.key x.key ≡ true) xs → AllByRecursion (λ x. cmp x.key at.key ≡ Greater) xs
  highs [] h = tt
  highs (x ∷ xs) h = (total.antisymm x.key at.key ∙ ap ordering_reverse (less_of (cmp at.key x.key) h.0), highs xs h.1)

  module _ (xs : List Item) (are : AreItems cmp xs) where
    s : Split (before_by cmp) at.key xs
    s = split (before_by cmp) order at.key xs are.ascends are.some

    ps : List Pair
    ps = items_pairs xs

    whole : places (items_pairs xs) ≡ row s.front ++ (numbered at.key 0 s.own ++ row s.back)
    whole =
        places_row (before_by cmp) order xs are.ascends
        ∙ ap row s.are
        ∙ flat_map-append item_places s.front (own_items at.key s.own ++ s.back)
        ∙ ap (λ (z : List Place). row s.front ++ z) (flat_map-append item_places (own_items at.key s.own) s.back ∙ ap (λ (z : List Place). z ++ row s.back) (own_row at.key s.own))

    own_pairs : (own : List (List ℕ)) → items_pairs (own_items at.key own) ≡ map (pair at.key) own
    own_pairs [] = refl
    own_pairs (v ∷ vs) = append-nil (map (pair at.key) (v ∷ vs))

    own_values : values (items_pairs xs) at.key ≡ s.own
    own_values = values_of_parts (before_by cmp) order at.key (items_pairs xs) (record {
      front = items_pairs s.front;
      own = s.own;
      back = items_pairs s.back;
      are = ap items_pairs s.are
          ∙ flat_map-append item_pairs s.front (own_items at.key s.own ++ s.back)
          ∙ ap (λ (z : List Pair). items_pairs s.front ++ z) (flat_map-append item_pairs (own_items at.key s.own) s.back ∙ ap (λ (z : List Pair). z ++ items_pairs s.back) (own_pairs s.own));
      low = all_items (λ k. before_by cmp k at.key ≡ true) s.front s.low;
      high = all_items (λ k. before_by cmp at.key k ≡ true) s.back s.high;
    })

    -- the places that pass
    filtered : (t : Ordering → Bool) → filter (tested t) (places (items_pairs xs)) ≡ filter (tested t) (row s.front) ++ (filter (tested t) (numbered at.key 0 s.own) ++ filter (tested t) (row s.back))
    filtered t =
        ap (filter (tested t)) whole
        ∙ filter-append (tested t) (row s.front) (numbered at.key 0 s.own ++ row s.back)
        ∙ ap (λ (z : List Place). filter (tested t) (row s.front) ++ z) (filter-append (tested t) (numbered at.key 0 s.own) (row s.back))

    -- of those behind it
    on_from : (t : Ordering → Bool) → ((m : Ordering) → t (ordering_then Less m) ≡ false) → ((m : Ordering) → t (ordering_then Greater m) ≡ true) → filter (tested t) (places (items_pairs xs)) ≡ filter (tested t) (numbered at.key 0 s.own) ++ row s.back
    on_from t low high =
        filtered t
        ∙ (λ j. keeps_none (tested t) (row s.front) (all_row t Less false low s.front (lows s.front s.low)) j ++ (filter (tested t) (numbered at.key 0 s.own) ++ keeps_all (tested t) (row s.back) (all_row t Greater true high s.back (highs s.back s.high)) j))

    back_part : AreItems cmp s.back
    back_part = record {
      ascends = behind_part (own_items at.key s.own) s.back (behind_part s.front (own_items at.key s.own ++ s.back) (subst (λ (z : List Item). Ascends (before_by cmp) z) s.are are.ascends));
      some = (all_part HasValue (own_items at.key s.own) s.back (all_part HasValue s.front (own_items at.key s.own ++ s.back) (subst (AllByRecursion HasValue) s.are are.some)).1).1;
    }
      where
        behind_part : (ys zs : List Item) → Ascends (before_by cmp) (ys ++ zs) → Ascends (before_by cmp) zs
        behind_part [] zs h = h
        behind_part (y ∷ ys) zs h = behind_part ys zs h.1

    abbrev gt : Item → Bool
    gt x = is_gt (cmp x.key at.key)

    abbrev lt : Item → Bool
    lt x = is_lt (cmp x.key at.key)

    -- the items above the key
    above_is : above cmp (items_pairs xs) at.key ≡ items_pairs s.back
    above_is =
        sym (pairs_kept (λ k. is_gt (cmp k at.key)) xs)
        ∙ ap items_pairs (ap (filter gt) s.are
        ∙ filter-append gt s.front (own_items at.key s.own ++ s.back)
        ∙ (λ j. keeps_none gt s.front (none s.front (lows s.front s.low)) j ++ filter-append gt (own_items at.key s.own) s.back j)
        ∙ (λ j. own_none s.own j ++ keeps_all gt s.back (all s.back (highs s.back s.high)) j))
      where
        none : (ys : List Item) → AllByRecursion (λ y. cmp y.key at.key ≡ Less) ys → AllByRecursion (λ y. gt y ≡ false) ys
        none [] h = tt
        none (y ∷ ys) h = (ap is_gt h.0, none ys h.1)

        all : (ys : List Item) → AllByRecursion (λ y. cmp y.key at.key ≡ Greater) ys → AllByRecursion (λ y. gt y ≡ true) ys
        all [] h = tt
        all (y ∷ ys) h = (ap is_gt h.0, all ys h.1)

        own_none : (own : List (List ℕ)) → filter gt (own_items at.key own) ≡ []
        own_none [] = refl
        own_none (v ∷ vs) = skips_first gt (record { key = at.key; values = v ∷ vs }) [] (ap is_gt (equal_of (cmp at.key at.key) (total.antisymm at.key at.key)))

    back_head : head_of (row s.back) ≡ first_value (ends_above cmp at.key (items_pairs xs))
    back_head = heads cmp order s.back back_part ∙ ap (λ (z : List Pair). first_value (end_first z)) (sym above_is)

    last_is_own : last_number at.key (items_pairs xs) ≡ number_last s.own
    last_is_own = ap number_last own_values

    gt_low : (m : ℕ) → m < suc at.number → tested is_gt (place at.key m) ≡ false
    gt_low m lt = own_test is_gt m ∙ ⊎_elim (λ (less : m < at.number). ap is_gt (numbers_less m at.number less)) (λ (more : at.number ≤ m). ap is_gt (numbers_same m at.number (omega (arith, lt, more)))) (cases_lt m at.number)

    gt_high : (m : ℕ) → suc at.number ≤ m → tested is_gt (place at.key m) ≡ true
    gt_high m le = own_test is_gt m ∙ ap is_gt (numbers_more m at.number (omega (arith, le)))

    ge_low : (m : ℕ) → m < at.number → tested is_ge (place at.key m) ≡ false
    ge_low m lt = own_test is_ge m ∙ ap is_ge (numbers_less m at.number lt)

    ge_high : (m : ℕ) → at.number ≤ m → tested is_ge (place at.key m) ≡ true
    ge_high m le = own_test is_ge m ∙ ⊎_elim (λ (less : at.number < m). ap is_ge (numbers_more m at.number less)) (λ (more : m ≤ at.number). ap is_ge (numbers_same m at.number (omega (arith, le, more)))) (cases_lt at.number m)

    lt_low : (m : ℕ) → m < at.number → tested is_lt (place at.key m) ≡ true
    lt_low m lt = own_test is_lt m ∙ ap is_lt (numbers_less m at.number lt)

    lt_high : (m : ℕ) → at.number ≤ m → tested is_lt (place at.key m) ≡ false
    lt_high m le = own_test is_lt m ∙ ⊎_elim (λ (less : at.number < m). ap is_lt (numbers_more m at.number less)) (λ (more : m ≤ at.number). ap is_lt (numbers_same m at.number (omega (arith, le, more)))) (cases_lt at.number m)

    -- ---- behind

    behind_is : place_behind cmp at (items_pairs xs) ≡ head_of (filter (tested is_gt) (numbered at.key 0 s.own) ++ row s.back)
    behind_is = ap (λ (z : List Place). head_of z) (on_from is_gt (λ m. refl) (λ m. refl))

    pub next_own : (n : ℕ) → number_behind at.number (last_number at.key (items_pairs xs)) ≡ Some n → place_behind cmp at (items_pairs xs) ≡ Some (place at.key n)
    next_own n e = behind_is ∙ go s.own refl (sym (ap (number_behind at.number) last_is_own) ∙ e)
      where
        go : (own : List (List ℕ)) → s.own ≡ own → number_behind at.number (number_last own) ≡ Some n → head_of (filter (tested is_gt) (numbered at.key 0 s.own) ++ row s.back) ≡ Some (place at.key n)
        go [] same e = absurd cc
        go (v ∷ vs) same e =
            let k = behind_some at.number (length vs) n e in
            first_on at.key (tested is_gt) (suc at.number) gt_low gt_high 0 s.own (row s.back) (omega arith) (omega (arith, k.0, ap length same)) ∙ ap (λ (m : ℕ). Some (place at.key m)) (omega (arith, k.1))

    pub next_on : number_behind at.number (last_number at.key (items_pairs xs)) ≡ None → place_behind cmp at (items_pairs xs) ≡ first_value (ends_above cmp at.key (items_pairs xs))
    next_on e = behind_is ∙ ap (λ (z : List Place). head_of (z ++ row s.back)) (go s.own refl (sym (ap (number_behind at.number) last_is_own) ∙ e)) ∙ back_head
      where
        go : (own : List (List ℕ)) → s.own ≡ own → number_behind at.number (number_last own) ≡ None → filter (tested is_gt) (numbered at.key 0 s.own) ≡ []
        go [] same e = ap (λ (z : List (List ℕ)). filter (tested is_gt) (numbered at.key 0 z)) same
        go (v ∷ vs) same e = none_on at.key (tested is_gt) (suc at.number) gt_low gt_high 0 s.own (omega (arith, behind_none at.number (length vs) e, ap length same))

    -- ---- from it on

    from_is : place_from cmp at (items_pairs xs) ≡ head_of (filter (tested is_ge) (numbered at.key 0 s.own) ++ row s.back)
    from_is = ap (λ (z : List Place). head_of z) (on_from is_ge (λ m. refl) (λ m. refl))

    pub from_own : (last : ℕ) → last_number at.key (items_pairs xs) ≡ Some last → at.number ≤ last → place_from cmp at (items_pairs xs) ≡ Some at
    from_own last e le = from_is ∙ go s.own refl (sym last_is_own ∙ e)
      where
        go : (own : List (List ℕ)) → s.own ≡ own → number_last own ≡ Some last → head_of (filter (tested is_ge) (numbered at.key 0 s.own) ++ row s.back) ≡ Some at
        go [] same e = absurd cc
        go (v ∷ vs) same e =
            let k : length vs ≡ last = cc in
            first_on at.key (tested is_ge) at.number ge_low ge_high 0 s.own (row s.back) (omega arith) (omega (arith, k, le, ap length same))

    from_none : ((last : ℕ) → last_number at.key (items_pairs xs) ≡ Some last → last < at.number) → filter (tested is_ge) (numbered at.key 0 s.own) ≡ []
    from_none few = go s.own refl
      where
        go : (own : List (List ℕ)) → s.own ≡ own → filter (tested is_ge) (numbered at.key 0 s.own) ≡ []
        go [] same = ap (λ (z : List (List ℕ)). filter (tested is_ge) (numbered at.key 0 z)) same
        go (v ∷ vs) same = none_on at.key (tested is_ge) at.number ge_low ge_high 0 s.own (omega (arith, few (length vs) (last_is_own ∙ ap number_last same), ap length same))

    pub from_next : ((last : ℕ) → last_number at.key (items_pairs xs) ≡ Some last → last < at.number) → place_from cmp at (items_pairs xs) ≡ first_value (ends_above cmp at.key (items_pairs xs))
    from_next few = from_is ∙ ap (λ (z : List Place). head_of (z ++ row s.back)) (from_none few) ∙ back_head

    -- ---- in front of it

    before_is : place_before cmp at (items_pairs xs) ≡ end_in (row s.front ++ filter (tested is_lt) (numbered at.key 0 s.own))
    before_is =
        ap (λ (z : List Place). end_in z)
        (filtered is_lt
        ∙ (λ j. keeps_all (tested is_lt) (row s.front) (all_row is_lt Less true (λ m. refl) s.front (lows s.front s.low)) j ++ (filter (tested is_lt) (numbered at.key 0 s.own) ++ keeps_none (tested is_lt) (row s.back) (all_row is_lt Greater false (λ m. refl) s.back (highs s.back s.high)) j))
        ∙ ap (λ (z : List Place). row s.front ++ z) (append-nil (filter (tested is_lt) (numbered at.key 0 s.own))))

    below_is : items_below cmp at.key xs ≡ s.front
    below_is =
        ap (filter lt) s.are
        ∙ filter-append lt s.front (own_items at.key s.own ++ s.back)
        ∙ (λ j. keeps_all lt s.front s.low j ++ filter-append lt (own_items at.key s.own) s.back j)
        ∙ (λ j. s.front ++ (own_none s.own j ++ keeps_none lt s.back (none s.back (highs s.back s.high)) j))
        ∙ append-nil s.front
      where
        none : (ys : List Item) → AllByRecursion (λ y. cmp y.key at.key ≡ Greater) ys → AllByRecursion (λ y. lt y ≡ false) ys
        none [] h = tt
        none (y ∷ ys) h = (ap is_lt h.0, none ys h.1)

        own_none : (own : List (List ℕ)) → filter lt (own_items at.key own) ≡ []
        own_none [] = refl
        own_none (v ∷ vs) = skips_first lt (record { key = at.key; values = v ∷ vs }) [] (ap is_lt (equal_of (cmp at.key at.key) (total.antisymm at.key at.key)))

    front_some : AllByRecursion HasValue s.front
    front_some = (all_part HasValue s.front (own_items at.key s.own ++ s.back) (subst (AllByRecursion HasValue) s.are are.some)).0

    front_end : end_in (row s.front) ≡ last_value (ends_before cmp at.key (items_pairs xs))
    front_end = end_row s.front front_some ∙ ap (λ (o : Option Item). last_value (option_map end_of o)) (sym (before_of cmp order at.key xs are ∙ ap (λ (ys : List Item). last_item ys) below_is))

    pub prev_own : (n : ℕ) → number_in_front at.number (last_number at.key (items_pairs xs)) ≡ Some n → place_before cmp at (items_pairs xs) ≡ Some (place at.key n)
    prev_own n e = before_is ∙ go s.own refl (sym (ap (number_in_front at.number) last_is_own) ∙ e)
      where
        go : (own : List (List ℕ)) → s.own ≡ own → number_in_front at.number (number_last own) ≡ Some n → end_in (row s.front ++ filter (tested is_lt) (numbered at.key 0 s.own)) ≡ Some (place at.key n)
        go [] same e = absurd cc
        go (v ∷ vs) same e =
            let k = front_is at.number (length vs) n e in
            last_up at.key (tested is_lt) at.number lt_low lt_high 0 s.own (row s.front) n (omega arith) k.0 (omega (arith, k.1, ap length same)) (⊎_elim (λ (a : at.number ≤ suc n). inl a) (λ (b : length vs ≤ n). inr (omega (arith, b, ap length same))) k.2)

    pub prev_on : number_in_front at.number (last_number at.key (items_pairs xs)) ≡ None → place_before cmp at (items_pairs xs) ≡ last_value (ends_before cmp at.key (items_pairs xs))
    prev_on e = before_is ∙ ap (λ (z : List Place). end_in (row s.front ++ z)) (go s.own refl (sym (ap (number_in_front at.number) last_is_own) ∙ e)) ∙ ap (λ (z : List Place). end_in z) (append-nil (row s.front)) ∙ front_end
      where
        go : (own : List (List ℕ)) → s.own ≡ own → number_in_front at.number (number_last own) ≡ None → filter (tested is_lt) (numbered at.key 0 s.own) ≡ []
        go [] same e = ap (λ (z : List (List ℕ)). filter (tested is_lt) (numbered at.key 0 z)) same
        go (v ∷ vs) same e = none_up at.key (tested is_lt) at.number lt_low lt_high 0 s.own (omega (arith, front_none at.number (length vs) e))

-- ---- from a key on

module _ (cmp : List ℕ → List ℕ → Ordering) (order : IsOrder (before_by cmp)) where
  pub jump_is : (key : List ℕ) (xs : List Item) → AreItems cmp xs → first_place (from_on cmp key (items_pairs xs)) ≡ first_value (end_first (from_on cmp key (items_pairs xs)))
  jump_is key xs are =
      subst (λ (qs : List Pair). first_place qs ≡ first_value (end_first qs)) (pairs_kept (λ k. is_ge (cmp k key)) xs)
      (first_is cmp order (filter (λ x. is_ge (cmp x.key key)) xs)
      (record { ascends = ascends_kept (before_by cmp) (λ x. is_ge (cmp x.key key)) xs are.ascends; some = kept_all (λ (x : Item). is_ge (cmp x.key key)) HasValue xs are.some }))
