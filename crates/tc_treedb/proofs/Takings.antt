-- Rows that grow by what is shown, and bytes that are counted of it.
use Rattle.std.proofs.Common.{◌≡◌, ◌∙◌, ⊎_elim, ℕ, zero, suc, ◌+◌, ◌-◌, ◌<◌, ◌≤◌, ◌==◌, Bool, true, false, cond, List, [], ◌∷◌, ◌++◌, length, map, take, refl, sym, ap, subst, arith, append_assoc, length-append}
use Rattle.std.specs.Prelude.{Option, Some, None, IfSome, nat_eq, not}
use Rattle.std.specs.List.{starts_with, sum_by}
use Rattle.std.proofs.lemmas.Bool.{ne_eqb}
use Rattle.std.proofs.lemmas.Grind.{flat_map-append}
use Rattle.std.proofs.lemmas.List.{append-nil, map-append, take_all}
use Rattle.std.proofs.lemmas.List.Elements.{filter-append}
use Rattle.std.proofs.lemmas.List.Sums.{sum_by-append}
use Rattle.tc_base.specs.Lists.{pair}
use Rattle.tc_base.specs.declared.seq.Pair.{Pair}
use Rattle.tc_model.specs.Rows.{texts_of}
use Rattle.bt_slots.specs.Reads.{value_in, values_in, with_value}
use Rattle.tc_engine.specs.Changes.{first_of}
use Rattle.tc_engine.specs.Rows.{Adds, Extends, Gathered, adds_then, extends_refl, extends_then, is_long, item_row, joined, text_rows}
use Rattle.tc_engine.specs.declared.rows.Rows.{Rows}
use Rattle.tc_treedb.specs.Reading.{bytes_in}
use Rattle.tc_treedb.specs.Taking.{AddsKey, AddsPair, AddsValues, AreAdded, AreDone, AreKeysAdded, beginning, first_row, is_spent, lessened}
use Rattle.tc_treedb.specs.declared.takers.KeyRows.{KeyRows}
use Rattle.tc_treedb.specs.declared.takers.PairRows.{PairRows}

clash : {A : Type 0} (b : Bool) → b ≡ true → b ≡ false → A
clash b is other = absurd (let bad : true ≡ false = sym is ∙ other in cc)

take_append : {A : Type 0} (k : ℕ) (xs ys : List A) → take k (xs ++ ys) ≡ take k xs ++ take (k - length xs) ys
take_append zero xs ys = let e : zero - length xs ≡ zero = omega arith in sym (ap (λ (n : ℕ). take n ys) e)
take_append {A} (suc k) [] ys = let e : suc k ≡ suc k - 0 = omega arith in ap (λ (n : ℕ). take n ys) e
take_append {A} (suc k) (x ∷ xs) ys =
    let e : k - length xs ≡ suc k - length (x ∷ xs) = omega arith in
    ap (λ (l : List A). x ∷ l) (take_append k xs ys) ∙ ap (λ (n : ℕ). x ∷ (take k xs ++ take n ys)) e

-- ---- rows

joined_append : (xs ys : List (List ℕ)) → joined (xs ++ ys) ≡ joined xs ++ joined ys
joined_append [] ys = refl
joined_append (x ∷ xs) ys = ap (λ (l : List ℕ). x ++ l) (joined_append xs ys) ∙ sym (append_assoc x (joined xs) (joined ys))

joined_more : (before xs ys : List (List ℕ)) → length (joined (before ++ (xs ++ ys))) ≡ length (joined (before ++ xs)) + length (joined ys)
joined_more before xs ys =
    ap (λ (l : List (List ℕ)). length (joined l)) (sym (append_assoc before xs ys)) ∙ (ap length (joined_append (before ++ xs) ys) ∙ length-append (joined (before ++ xs)) (joined ys))

-- to long rows nothing is added by more
long_adds : (from rows : Rows) (xs ys : List (List ℕ)) → is_long rows ≡ true → Adds from rows xs → Adds from rows (xs ++ ys)
long_adds from rows xs ys long a = record {
  most = a.most;
  gathered = λ front before g.
      let w : Gathered rows front (before ++ xs) = a.gathered front before g in record {
        bytes = λ short. clash (is_long rows) long short;
        count = λ short. clash (is_long rows) long short;
        room = λ short. clash (is_long rows) long short;
        long = λ l. let less = w.long l in let more = joined_more before xs ys in omega (arith, less, more);
        behind = w.behind;
      };
}

zero_is : (n : ℕ) → (n == 0) ≡ true → n ≡ 0
zero_is zero e = refl
zero_is (suc n) e = clash (suc n == 0) e (ne_eqb (suc n) 0 (λ e. cc))

zero_isnt : (n : ℕ) → (n == 0) ≡ false → 0 < n
zero_isnt zero e = absurd cc
zero_isnt (suc n) e = omega arith

some_same : (a b : ℕ) → Some a ≡ Some b → a ≡ b
some_same a b e = cc

module _ {A : Type 0} (spell : List A → List (List ℕ)) (joins : (xs ys : List A) → spell (xs ++ ys) ≡ spell xs ++ spell ys) where
  -- of what was shown the first were added, and so many are left to add
  abbrev pub Added : Option ℕ → Rows → List A → Rows → Option ℕ → Type 0
  Added most from shown rows left = Adds from rows (spell (first_of most shown)) × (is_long rows ≡ false → left ≡ lessened most (length shown))

  first_more : (most : Option ℕ) (xs ys : List A) → (zs : List A) × (first_of most (xs ++ ys) ≡ first_of most xs ++ zs)
  first_more None xs ys = (ys, refl)
  first_more (Some k) xs ys = (take (k - length xs) ys, take_append k xs ys)

  long_more : (most : Option ℕ) (from rows : Rows) (left : Option ℕ) (shown ys : List A) → is_long rows ≡ true → Added most from shown rows left → Added most from (shown ++ ys) rows left
  long_more most from rows left shown ys long a =
      let more = first_more most shown ys in (
        subst (λ (rs : List (List ℕ)). Adds from rows rs) (sym (ap spell more.1 ∙ joins (first_of most shown) more.0)) (long_adds from rows (spell (first_of most shown)) (spell more.0) long a.0),
        (λ short. clash (is_long rows) long short),
      )

  none_left : (left : Option ℕ) (k n : ℕ) → left ≡ Some (k - n) → is_spent left ≡ true → k ≤ n
  none_left left k n is spent = let e : k - n ≡ 0 = zero_is (k - n) (sym (ap is_spent is) ∙ spent) in omega (arith, e)

  spent_more : (most : Option ℕ) (from rows : Rows) (left : Option ℕ) (shown ys : List A) → is_long rows ≡ false → is_spent left ≡ true → Added most from shown rows left → Added most from (shown ++ ys) rows left
  spent_more None from rows left shown ys short spent a = clash (is_spent left) spent (ap is_spent (a.1 short))
  spent_more (Some k) from rows left shown ys short spent a =
      let few : k ≤ length shown = none_left left k (length shown) (a.1 short) spent in
      let none_more : k - length shown ≡ 0 = omega (arith, few) in
      let same : take k (shown ++ ys) ≡ take k shown = take_append k shown ys ∙ (ap (λ (n : ℕ). take k shown ++ take n ys) none_more ∙ append-nil (take k shown)) in
      let count : k - length shown ≡ k - length (shown ++ ys) = let long = length-append shown ys in omega (arith, few, long) in (
        subst (λ (l : List A). Adds from rows (spell l)) (sym same) a.0,
        (λ again. a.1 short ∙ ap (λ (n : ℕ). Some n) count),
      )

  -- where no more is added, more may be shown
  pub done_more : (most : Option ℕ) (from rows : Rows) (left : Option ℕ) (shown ys : List A) → AreDone rows left → Added most from shown rows left → Added most from (shown ++ ys) rows left
  done_more most from rows left shown ys done a = elim (is_long rows) as (λ b. is_long rows ≡ b → Added most from (shown ++ ys) rows left) [
    | true ↦ λ e. long_more most from rows left shown ys e a
    | false ↦ λ e. spent_more most from rows left shown ys e (⊎_elim (λ long. clash (is_long rows) long e) (λ spent. spent) done) a
  ] refl

  first_room : (most : Option ℕ) (left : Option ℕ) (shown : List A) (x : A) → left ≡ lessened most (length shown) → is_spent left ≡ false → first_of most (shown ++ x ∷ []) ≡ first_of most shown ++ x ∷ []
  first_room None left shown x is some = refl
  first_room (Some k) left shown x is some =
      let room : 0 < k - length shown = zero_isnt (k - length shown) (sym (ap is_spent is) ∙ some) in
      let long = length-append shown (x ∷ []) in
      take_all k (shown ++ x ∷ []) (omega (arith, room, long)) ∙ ap (λ (l : List A). l ++ x ∷ []) (sym (take_all k shown (omega (arith, room))))

  lessened_more : (most : Option ℕ) (shown : List A) (x : A) → lessened (lessened most (length shown)) 1 ≡ lessened most (length (shown ++ x ∷ []))
  lessened_more None shown x = refl
  lessened_more (Some k) shown x = let long = length-append shown (x ∷ []) in let e : (k - length shown) - 1 ≡ k - length (shown ++ x ∷ []) = omega (arith, long) in ap (λ (n : ℕ). Some n) e

  -- one more was added
  pub one_more : (most : Option ℕ) (from rows rows' : Rows) (left left' : Option ℕ) (shown : List A) (x : A) → is_spent left ≡ false → is_long rows ≡ false → Adds rows rows' (spell (x ∷ [])) → left' ≡ lessened left 1 → Added most from shown rows left → Added most from (shown ++ x ∷ []) rows' left'
  one_more most from rows rows' left left' shown x some short adds count a =
      let room = first_room most left shown x (a.1 short) some in (
        subst (λ (rs : List (List ℕ)). Adds from rows' rs) (sym (ap spell room ∙ joins (first_of most shown) (x ∷ []))) (adds_then from rows rows' (spell (first_of most shown)) (spell (x ∷ [])) a.0 adds),
        (λ again. count ∙ (ap (λ (o : Option ℕ). lessened o 1) (a.1 short) ∙ lessened_more most shown x)),
      )

-- ---- pairs

pub text_joins : (ps qs : List Pair) → text_rows (ps ++ qs) ≡ text_rows ps ++ text_rows qs
text_joins ps qs = ap (map item_row) (flat_map-append (λ (p : Pair). p.key ∷ p.value ∷ []) ps qs) ∙ map-append item_row (texts_of ps) (texts_of qs)

abbrev PairsAdded : Option ℕ → Rows → List Pair → PairRows → Type 0
PairsAdded most from shown t = Added text_rows text_joins most from shown t.rows t.left

as_rows : (most : Option ℕ) (from : Rows) (shown : List Pair) (t : PairRows) → AreAdded most from shown t → PairsAdded most from shown t
as_rows most from shown t a = (a.added, a.count)

of_rows : (most : Option ℕ) (from : Rows) (shown : List Pair) (t : PairRows) → PairsAdded most from shown t → AreAdded most from shown t
of_rows most from shown t a = record { added = a.0; count = a.1 }

pub pairs_done : (most : Option ℕ) (from : Rows) (shown ys : List Pair) (t : PairRows) → AreDone t.rows t.left → AreAdded most from shown t → AreAdded most from (shown ++ ys) t
pairs_done most from shown ys t done a = of_rows most from (shown ++ ys) t (done_more text_rows text_joins most from t.rows t.left shown ys done (as_rows most from shown t a))

done_from : (rows : Rows) (left : Option ℕ) (b : Bool) → (b ≡ true → AreDone rows left) → not b ≡ false → AreDone rows left
done_from rows left true done none = done refl
done_from rows left false done none = absurd cc

-- nothing more is wanted, and nothing is added
pub pair_skipped : (key value : List ℕ) (t : PairRows) → AreDone t.rows t.left → AddsPair key value t t false
pair_skipped key value t done = record { goes_on = λ most from shown a. pairs_done most from shown (pair key value ∷ []) t done a; ends = λ e. done }

-- a pair was added
pub pair_added : (key value : List ℕ) (t u : PairRows) (mid : Rows) (done : Bool) → (is_spent t.left ≡ false) × (is_long t.rows ≡ false) → Adds t.rows mid (item_row key ∷ []) → Adds mid u.rows (item_row value ∷ []) → u.left ≡ lessened t.left 1
    → (done ≡ true → AreDone u.rows u.left) → AddsPair key value t u (not done)
pair_added key value t u mid done free first second count is_done = record {
  goes_on = λ most from shown a. of_rows most from (shown ++ pair key value ∷ []) u
      (one_more text_rows text_joins most from t.rows u.rows t.left u.left shown (pair key value) free.0 free.1 (adds_then t.rows mid u.rows (item_row key ∷ []) (item_row value ∷ []) first second) count (as_rows most from shown t a));
  ends = λ e. done_from u.rows u.left done is_done e;
}

module _ (key : List ℕ) where
  behind_join : (shown : List Pair) (vs ws : List (List ℕ)) → (shown ++ map (pair key) vs) ++ map (pair key) ws ≡ shown ++ map (pair key) (vs ++ ws)
  behind_join shown vs ws = append_assoc shown (map (pair key) vs) (map (pair key) ws) ∙ ap (λ (l : List Pair). shown ++ l) (sym (map-append (pair key) vs ws))

  -- values behind others
  pub values_then : (vs ws : List (List ℕ)) (t u w : PairRows) (more wanted : Bool) → AddsValues key vs t u more → AddsValues key ws u w wanted → AddsValues key (vs ++ ws) t w wanted
  values_then vs ws t u w more wanted first second = record {
    goes_on = λ most from shown a. subst (λ (l : List Pair). AreAdded most from l w) (behind_join shown vs ws) (second.goes_on most from (shown ++ map (pair key) vs) (first.goes_on most from shown a));
    ends = second.ends;
  }

  -- those behind where no more is wanted
  pub values_end : (vs ws : List (List ℕ)) (t u : PairRows) → AddsValues key vs t u false → AddsValues key (vs ++ ws) t u false
  values_end vs ws t u first = record {
    goes_on = λ most from shown a. subst (λ (l : List Pair). AreAdded most from l u) (behind_join shown vs ws) (pairs_done most from (shown ++ map (pair key) vs) (map (pair key) ws) u (first.ends refl) (first.goes_on most from shown a));
    ends = first.ends;
  }

-- ---- values one behind the other

values_split : (i n : ℕ) (bytes : List ℕ) → values_in (i + n) bytes ≡ ((values_in i bytes).0 ++ (values_in n (values_in i bytes).1).0, (values_in n (values_in i bytes).1).1)
unfolding values_in
values_split zero n bytes = let e : zero + n ≡ n = omega arith in ap (λ (k : ℕ). values_in k bytes) e
values_split (suc i) n bytes = let e : suc i + n ≡ suc (i + n) = omega arith in ap (λ (k : ℕ). values_in k bytes) e ∙ ap (with_value (value_in bytes).0) (values_split i n (value_in bytes).1)

values_one : (bytes : List ℕ) → values_in 1 bytes ≡ ((value_in bytes).0 ∷ [], (value_in bytes).1)
unfolding values_in
values_one bytes = refl

-- one more, with the value that stands at the front of what is left
pub values_snoc : (i : ℕ) (bytes rest value behind : List ℕ) → rest ≡ (values_in i bytes).1 → (value, behind) ≡ value_in rest → values_in (i + 1) bytes ≡ ((values_in i bytes).0 ++ value ∷ [], behind)
values_snoc i bytes rest value behind is read =
    let one : values_in 1 (values_in i bytes).1 ≡ (value ∷ [], behind) = ap (values_in 1) (sym is) ∙ (values_one rest ∙ ap (λ (x : List ℕ × List ℕ). (x.0 ∷ [], x.1)) (sym read)) in
    values_split i 1 bytes ∙ ap (λ (x : List (List ℕ) × List ℕ). ((values_in i bytes).0 ++ x.0, x.1)) one

-- so many of them, and those behind
pub values_front : (i n : ℕ) (bytes : List ℕ) → i ≤ n → (ws : List (List ℕ)) × ((values_in n bytes).0 ≡ (values_in i bytes).0 ++ ws)
values_front i n bytes le =
    let e : n ≡ i + (n - i) = omega (arith, le) in
    ((values_in (n - i) (values_in i bytes).1).0, ap (λ (k : ℕ). (values_in k bytes).0) e ∙ ap (λ (x : List (List ℕ) × List ℕ). x.0) (values_split i (n - i) bytes))

values_none : (bytes : List ℕ) → values_in 0 bytes ≡ ([], bytes)
unfolding values_in
values_none bytes = refl

-- so many further values were added
pub record FurtherTo (key further : List ℕ) (i : ℕ) (rest : List ℕ) (t u : PairRows) : Type 0 where
  pub values : AddsValues key (values_in i further).0 t u true
  pub left : rest ≡ (values_in i further).1
  pub front : Extends t.rows u.rows

nothing_added : (key : List ℕ) (t : PairRows) → AddsValues key [] t t true
nothing_added key t = record { goes_on = λ most from shown a. subst (λ (l : List Pair). AreAdded most from l t) (sym (append-nil shown)) a; ends = λ e. absurd cc }

pub further_none : (key further : List ℕ) (t : PairRows) → FurtherTo key further 0 further t t
further_none key further t = record {
  values = subst (λ (x : List (List ℕ) × List ℕ). AddsValues key x.0 t t true) (sym (values_none further)) (nothing_added key t);
  left = ap (λ (x : List (List ℕ) × List ℕ). x.1) (sym (values_none further));
  front = extends_refl t.rows;
}

module _ (key further : List ℕ) (i : ℕ) (rest value behind : List ℕ) (t u w : PairRows) (so_far : FurtherTo key further i rest t u) (read : (value, behind) ≡ value_in rest) where
  snoc : values_in (i + 1) further ≡ ((values_in i further).0 ++ value ∷ [], behind)
  snoc = values_snoc i further rest value behind so_far.left read

  added_one : (more : Bool) → AddsPair key value u w more → AddsValues key (values_in (i + 1) further).0 t w more
  added_one more adds = subst (λ (x : List (List ℕ) × List ℕ). AddsValues key x.0 t w more) (sym snoc) (values_then key (values_in i further).0 (value ∷ []) t u w true more so_far.values adds)

  pub further_more : AddsPair key value u w true → Extends u.rows w.rows → FurtherTo key further (i + 1) behind t w
  further_more adds front = record { values = added_one true adds; left = ap (λ (x : List (List ℕ) × List ℕ). x.1) (sym snoc); front = extends_then t.rows u.rows w.rows so_far.front front }

  pub further_stop : (n : ℕ) → i < n → AddsPair key value u w false → AddsValues key (values_in n further).0 t w false
  further_stop n lt adds =
      let rest_of = values_front (i + 1) n further (omega (arith, lt)) in
      subst (λ (vs : List (List ℕ)). AddsValues key vs t w false) (sym rest_of.1) (values_end key (values_in (i + 1) further).0 rest_of.0 t w (added_one false adds))

pub further_all : (key further : List ℕ) (i n : ℕ) (rest : List ℕ) (t u : PairRows) → i ≤ n → n ≤ i → FurtherTo key further i rest t u → AddsValues key (values_in n further).0 t u true
further_all key further i n rest t u le ge so_far = let e : i ≡ n = omega (arith, le, ge) in subst (λ (k : ℕ). AddsValues key (values_in k further).0 t u true) e so_far.values

-- ---- keys

pub item_joins : (xs ys : List (List ℕ)) → map item_row (xs ++ ys) ≡ map item_row xs ++ map item_row ys
item_joins xs ys = map-append item_row xs ys

begin_more : (prefix : List ℕ) (shown : List (List ℕ)) (key : List ℕ) → beginning prefix (shown ++ key ∷ []) ≡ beginning prefix shown ++ beginning prefix (key ∷ [])
begin_more prefix shown key = filter-append (λ (k : List ℕ). starts_with nat_eq k prefix) shown (key ∷ [])

begins : (prefix key : List ℕ) (b : Bool) → starts_with nat_eq key prefix ≡ b → beginning prefix (key ∷ []) ≡ cond b (key ∷ []) []
begins prefix key b is = ap (λ (x : Bool). cond x (key ∷ []) []) is

module _ (key : List ℕ) (t u : KeyRows) (same : u.prefix.now ≡ t.prefix.now) where
  keys_to : (most : Option ℕ) (from : Rows) (shown : List (List ℕ)) (xs : List (List ℕ)) → beginning t.prefix.now (key ∷ []) ≡ xs → Added (map item_row) item_joins most from (beginning t.prefix.now shown ++ xs) u.rows u.left → AreKeysAdded most from (shown ++ key ∷ []) u
  keys_to most from shown xs is a =
      let are : beginning t.prefix.now shown ++ xs ≡ beginning u.prefix.now (shown ++ key ∷ []) =
      ap (λ (l : List (List ℕ)). beginning t.prefix.now shown ++ l) (sym is) ∙ (sym (begin_more t.prefix.now shown key) ∙ ap (λ (p : List ℕ). beginning p (shown ++ key ∷ [])) (sym same)) in
      let b = subst (λ (l : List (List ℕ)). Added (map item_row) item_joins most from l u.rows u.left) are a in
      record { added = b.0; count = b.1 }

-- nothing more is wanted
pub key_done : (key : List ℕ) (t : KeyRows) → AreDone t.rows t.left → AddsKey key t t false
key_done key t done = record {
  prefix_same = refl;
  goes_on = λ most from shown a. keys_to key t t refl most from shown (beginning t.prefix.now (key ∷ [])) refl
      (done_more (map item_row) item_joins most from t.rows t.left (beginning t.prefix.now shown) (beginning t.prefix.now (key ∷ [])) done (a.added, a.count));
  ends = λ e. done;
}

-- where no more is added, more keys may be shown
pub rows_done : (most : Option ℕ) (from : Rows) (shown ys : List (List ℕ)) (t : KeyRows) → AreDone t.rows t.left → AreKeysAdded most from shown t → AreKeysAdded most from (shown ++ ys) t
rows_done most from shown ys t done a =
    let b = done_more (map item_row) item_joins most from t.rows t.left (beginning t.prefix.now shown) (beginning t.prefix.now ys) done (a.added, a.count) in
    let are : beginning t.prefix.now shown ++ beginning t.prefix.now ys ≡ beginning t.prefix.now (shown ++ ys) = sym (filter-append (λ (k : List ℕ). starts_with nat_eq k t.prefix.now) shown ys) in
    let c = subst (λ (l : List (List ℕ)). Added (map item_row) item_joins most from l t.rows t.left) are b in
    record { added = c.0; count = c.1 }

-- a key that doesn't begin so
pub key_skipped : (key : List ℕ) (t : KeyRows) → starts_with nat_eq key t.prefix.now ≡ false → AddsKey key t t true
key_skipped key t other = record {
  prefix_same = refl;
  goes_on = λ most from shown a. keys_to key t t refl most from shown [] (begins t.prefix.now key false other)
      (subst (λ (l : List (List ℕ)). Added (map item_row) item_joins most from l t.rows t.left) (sym (append-nil (beginning t.prefix.now shown))) (a.added, a.count));
  ends = λ e. absurd cc;
}

pub key_added : (key : List ℕ) (t u : KeyRows) (done : Bool) → u.prefix.now ≡ t.prefix.now → starts_with nat_eq key t.prefix.now ≡ true → (is_spent t.left ≡ false) × (is_long t.rows ≡ false) → Adds t.rows u.rows (item_row key ∷ []) → u.left ≡ lessened t.left 1
    → (done ≡ true → AreDone u.rows u.left) → AddsKey key t u (not done)
key_added key t u done same so free adds count is_done = record {
  prefix_same = same;
  goes_on = λ most from shown a. keys_to key t u same most from shown (key ∷ []) (begins t.prefix.now key true so)
      (one_more (map item_row) item_joins most from t.rows u.rows t.left u.left (beginning t.prefix.now shown) key free.0 free.1 adds count (a.added, a.count));
  ends = λ e. done_from u.rows u.left done is_done e;
}

-- ---- a first value

pub first_added : (with_key : Bool) (key first value : List ℕ) (more others : List (List ℕ)) (from to : Rows) → Adds from to (first_row with_key key first) → first ∷ more ≡ value ∷ others → Adds from to (first_row with_key key value)
first_added with_key key first value more others from to adds same = let e : first ≡ value = cc in subst (λ (v : List ℕ). Adds from to (first_row with_key key v)) e adds

-- ---- bytes

pub bytes_join : (ps qs : List Pair) → bytes_in (ps ++ qs) ≡ bytes_in ps + bytes_in qs
bytes_join ps qs = ap (sum_by length) (flat_map-append (λ (p : Pair). p.key ∷ p.value ∷ []) ps qs) ∙ sum_by-append length (texts_of ps) (texts_of qs)

-- the bytes of a key and so many of its values were counted, if they have 64 bits
pub record CountedTo (key first further : List ℕ) (i : ℕ) (rest : List ℕ) (before now : Option ℕ) : Type 0 where
  pub bytes : IfSome now (λ n. (m : ℕ) × (before ≡ Some m) × (n ≡ m + bytes_in (map (pair key) (first ∷ (values_in i further).0))))
  pub left : rest ≡ (values_in i further).1

pub counted_first : (key first further : List ℕ) (k v : ℕ) (before now : Option ℕ) → k ≡ length key → v ≡ length first → IfSome now (λ n. (m : ℕ) × (before ≡ Some m) × (n ≡ m + k + v)) → CountedTo key first further 0 further before now
counted_first key first further k v before None is_key is_first sum = record { bytes = tt; left = ap (λ (x : List (List ℕ) × List ℕ). x.1) (sym (values_none further)) }
counted_first key first further k v before (Some n) is_key is_first sum = record {
  bytes = (
    sum.0,
    sum.1,
    subst (λ (x : List (List ℕ) × List ℕ). n ≡ sum.0 + bytes_in (map (pair key) (first ∷ x.0))) (sym (values_none further)) (let all = sum.2 in omega (arith, all, is_key, is_first)),
  );
  left = ap (λ (x : List (List ℕ) × List ℕ). x.1) (sym (values_none further));
}

counted_sum : (key first value : List ℕ) (vs : List (List ℕ)) → bytes_in (map (pair key) (first ∷ (vs ++ value ∷ []))) ≡ bytes_in (map (pair key) (first ∷ vs)) + length key + length value
counted_sum key first value vs =
    let join = bytes_join (map (pair key) (first ∷ vs)) (pair key value ∷ []) in
    let parts : map (pair key) (first ∷ (vs ++ value ∷ [])) ≡ map (pair key) (first ∷ vs) ++ pair key value ∷ [] = map-append (pair key) (first ∷ vs) (value ∷ []) in
    ap bytes_in parts ∙ omega (arith, join)

pub counted_more : (key first further : List ℕ) (i : ℕ) (rest value behind : List ℕ) (k v : ℕ) (before mid now : Option ℕ) → CountedTo key first further i rest before mid → (value, behind) ≡ value_in rest → k ≡ length key → v ≡ length value
    → IfSome now (λ n. (m : ℕ) × (mid ≡ Some m) × (n ≡ m + k + v)) → CountedTo key first further (i + 1) behind before now
counted_more key first further i rest value behind k v before mid None so_far read is_key is_value sum = record {
  bytes = tt;
  left = ap (λ (x : List (List ℕ) × List ℕ). x.1) (sym (values_snoc i further rest value behind so_far.left read));
}
counted_more key first further i rest value behind k v before mid (Some n) so_far read is_key is_value sum =
    let snoc : values_in (i + 1) further ≡ ((values_in i further).0 ++ value ∷ [], behind) = values_snoc i further rest value behind so_far.left read in
    let was = subst (λ (o : Option ℕ). IfSome o (λ n. (m : ℕ) × (before ≡ Some m) × (n ≡ m + bytes_in (map (pair key) (first ∷ (values_in i further).0))))) sum.1 so_far.bytes in
    let all : n ≡ was.0 + bytes_in (map (pair key) (first ∷ ((values_in i further).0 ++ value ∷ []))) =
    let more = counted_sum key first value (values_in i further).0 in let now_is = sum.2 in let was_is = was.2 in omega (arith, more, now_is, was_is, is_key, is_value) in
    record {
      bytes = (was.0, was.1, subst (λ (x : List (List ℕ) × List ℕ). n ≡ was.0 + bytes_in (map (pair key) (first ∷ x.0))) (sym snoc) all);
      left = ap (λ (x : List (List ℕ) × List ℕ). x.1) (sym snoc);
    }

pub counted_end : (key first further : List ℕ) (i n : ℕ) (rest : List ℕ) (before now : Option ℕ) → i ≤ n → n ≤ i → CountedTo key first further i rest before now → IfSome now (λ x. (m : ℕ) × (before ≡ Some m) × (x ≡ m + bytes_in (map (pair key) (first ∷ (values_in n further).0))))
counted_end key first further i n rest before now le ge so_far =
    let e : i ≡ n = omega (arith, le, ge) in
    subst (λ (k : ℕ). IfSome now (λ x. (m : ℕ) × (before ≡ Some m) × (x ≡ m + bytes_in (map (pair key) (first ∷ (values_in k further).0))))) e so_far.bytes
