-- The keys and pairs that are asked for, as those of entries from a key on.
use Rattle.std.proofs.Common.{◌≡◌, ◌<◌, ◌⊎◌, ⊎_elim, inl, inr, ℕ, Bool, true, false, ◌&&◌, cond, List, [], ◌∷◌, map, refl, sym, ap, subst, ◌∙◌, arith}
use Rattle.std.specs.Prelude.{nat_eq, filter, flat_map, Option, Some, None}
use Rattle.std.specs.declared.cmp.Ordering.{Ordering}
use Rattle.std.specs.declared.cmp.Ordering.TheVariants.{Less, Equal, Greater}
use Rattle.std.specs.Ordering.{nat_cmp, is_le, is_lt, is_ge, ordering_then}
use Rattle.std.specs.Cmp.{ranked, nat_cmp_is}
use Rattle.std.specs.Cmp.Lexicographic.{slice_cmp, nat_list_cmp_total}
use Rattle.std.specs.List.{starts_with, AllByRecursion}
use Rattle.std.specs.List.Sorted.{IsStrictlySortedBy}
use Rattle.std.specs.Map.{keys_of}
use Rattle.std.proofs.lemmas.Bool.{eqb-true, eq-eqb, and_parts, false_from_ne_true}
use Rattle.std.proofs.lemmas.Map.Keys.{sorted_head, sorted_tail}
use Rattle.tc_base.specs.declared.seq.Pair.{Pair}
use Rattle.tc_base.specs.Lists.{before, from_on}
use Rattle.std.specs.FinMap.{entries, keys}
use Rattle.tc_base.specs.Maps.{Map}
use Rattle.tc_maps.specs.Entries.{Held, pairs_of}
use Rattle.tc_maps.specs.Sizes.{entries_on}
use Rattle.tc_maps.proofs.Seen.{le_from, tested, keys_left}
use Rattle.tc_model.specs.Meaning.{at_most}
use Rattle.tc_model.specs.Rows.{texts_of}
use Rattle.tc_engine.specs.Changes.{first_of}
use Rattle.tc_engine.specs.Rows.{item_row}
use Rattle.tc_memdb.specs.Walked.{Falls, is_before, pair_items}
use Rattle.tc_memdb.proofs.Along.{texts_rows}

abbrev order : List ℕ → List ℕ → Ordering
order = slice_cmp nat_cmp

abbrev begins : List ℕ → List ℕ → Bool
begins prefix key = starts_with nat_eq key prefix

-- what an answer of the order says of the first bytes
le_head : (x y : ℕ) (o : Ordering) → is_le (ordering_then (nat_cmp x y) o) ≡ true → (x < y) ⊎ ((x ≡ y) × (is_le o ≡ true))
le_head x y o h =
    elim (nat_cmp x y) as (λ r. r ≡ nat_cmp x y → is_le (ordering_then r o) ≡ true → (x < y) ⊎ ((x ≡ y) × (is_le o ≡ true))) [
      | Less ↦ λ e h. inl (ranked x y Less e)
      | Equal ↦ λ e h. inr (ranked x y Equal e, h)
      | Greater ↦ λ e h. cc
    ] refl h

less_head : (x y : ℕ) (o : Ordering) → ordering_then (nat_cmp x y) o ≡ Less → (x < y) ⊎ ((x ≡ y) × (o ≡ Less))
less_head x y o h =
    elim (nat_cmp x y) as (λ r. r ≡ nat_cmp x y → ordering_then r o ≡ Less → (x < y) ⊎ ((x ≡ y) × (o ≡ Less))) [
      | Less ↦ λ e h. inl (ranked x y Less e)
      | Equal ↦ λ e h. inr (ranked x y Equal e, h)
      | Greater ↦ λ e h. cc
    ] refl h

begins_head : (x y : ℕ) (p k : List ℕ) → begins (x ∷ p) (y ∷ k) ≡ true → (x ≡ y) × (begins p k ≡ true)
begins_head x y p k h = let parts = and_parts (nat_eq x y) (begins p k) h in (eqb-true x y parts.0, parts.1)

begins_cons : (x y : ℕ) (p k : List ℕ) → x ≡ y → begins p k ≡ true → begins (x ∷ p) (y ∷ k) ≡ true
begins_cons x y p k e h = ap (λ b. b && begins p k) (eq-eqb x y e) ∙ h

-- a key that begins with the prefix isn't below it
not_below : (p k : List ℕ) → begins p k ≡ true → is_le (order p k) ≡ true
not_below [] [] h = refl
not_below [] (y ∷ k) h = refl
not_below (x ∷ p) [] h = cc
not_below (x ∷ p) (y ∷ k) h =
    let parts = begins_head x y p k h in
    ap (λ (r : Ordering). is_le (ordering_then r (order p k))) (sym (nat_cmp_is x y Equal parts.0)) ∙ not_below p k parts.1

-- a key between the prefix and a key that begins with it begins with it
between : (p k y : List ℕ) → is_le (order p k) ≡ true → order k y ≡ Less → begins p y ≡ true → begins p k ≡ true
between [] k y le lt h = refl
between (x ∷ p) k [] le lt h = cc
between (x ∷ p) [] (z ∷ y) le lt h = cc
between (x ∷ p) (w ∷ k) (z ∷ y) le lt h =
    let parts = begins_head x z p y h in
    ⊎_elim
    (λ below. ⊎_elim (λ under. absurd (omega (arith, below, under, parts.0))) (λ same. absurd (omega (arith, below, same.0, parts.0))) (less_head w z (order k y) lt))
    (λ tied. ⊎_elim (λ under. absurd (omega (arith, tied.0, under, parts.0))) (λ same. begins_cons x w p k tied.0 (between p k y tied.1 same.1 parts.1)) (less_head w z (order k y) lt))
    (le_head x w (order p k) le)

-- where a key at or behind the prefix doesn't begin with it, none behind does
none_behind : (p k : List ℕ) (ks : List (List ℕ)) → is_le (order p k) ≡ true → begins p k ≡ false → AllByRecursion (λ y. order k y ≡ Less) ks → AllByRecursion (λ y. begins p y ≡ false) ks
none_behind p k [] le not all = tt
none_behind p k (y ∷ ks) le not all = (false_from_ne_true (begins p y) (λ is. let begun : begins p k ≡ true = between p k y le all.0 is in cc), none_behind p k ks le not all.1)

-- ---- keys that begin with a prefix

pub begins_falls : (p : List ℕ) (ks : List (List ℕ)) → IsStrictlySortedBy order ks → AllByRecursion (λ y. is_ge (order y p) ≡ true) ks → Falls (begins p) ks
begins_falls p [] s h = tt
begins_falls p (k ∷ ks) s h = (λ not. none_behind p k ks (le_from p k ∙ h.0) not (sorted_head order k ks s), begins_falls p ks (sorted_tail order k ks s) h.1)

pub all_kept : (t : List ℕ → Bool) (ks : List (List ℕ)) → AllByRecursion (λ y. t y ≡ true) (filter t ks)
all_kept t [] = tt
all_kept t (k ∷ ks) = elim (t k) as (λ b. t k ≡ b → AllByRecursion (λ y. t y ≡ true) (cond b (k ∷ filter t ks) (filter t ks))) [
  | true ↦ λ e. (e, all_kept t ks)
  | false ↦ λ e. all_kept t ks
] refl

pub from_falls : (p : List ℕ) (ks all : List (List ℕ)) → IsStrictlySortedBy order ks → ks ≡ filter (λ y. is_ge (order y p)) all → Falls (begins p) ks
from_falls p ks all s e = begins_falls p ks s (subst (AllByRecursion (λ y. is_ge (order y p) ≡ true)) (sym e) (all_kept (λ y. is_ge (order y p)) all))

-- those from the prefix on are all of them
begun : (p : List ℕ) (ks : List (List ℕ)) → filter (begins p) (filter (λ y. is_ge (order y p)) ks) ≡ filter (begins p) ks
begun p [] = refl
begun p (k ∷ ks) =
    let kept : List (List ℕ) = filter (λ y. is_ge (order y p)) ks in
    elim (is_ge (order k p)) as (λ b. is_ge (order k p) ≡ b → filter (begins p) (cond b (k ∷ kept) kept) ≡ cond (begins p k) (k ∷ filter (begins p) ks) (filter (begins p) ks)) [
      | true ↦ λ e. ap (λ l. cond (begins p k) (k ∷ l) l) (begun p ks)
      | false ↦ λ e.
          let not : begins p k ≡ false = false_from_ne_true (begins p k) (λ is. let le : is_le (order p k) ≡ true = not_below p k is in let same = le_from p k in cc) in
          begun p ks ∙ sym (ap (λ b. cond b (k ∷ filter (begins p) ks) (filter (begins p) ks)) not)
    ] refl

pub keys_asked : (p : List ℕ) (most : Option ℕ) (ks all : List (List ℕ)) → ks ≡ filter (λ y. is_ge (order y p)) all → map item_row (first_of most (filter (begins p) ks)) ≡ map item_row (first_of most (filter (begins p) all))
keys_asked p most ks all e = ap (λ l. map item_row (first_of most l)) (ap (filter (begins p)) e ∙ begun p all)

-- ---- pairs before a key

not_before : (t k y : List ℕ) → order k y ≡ Less → is_lt (order k t) ≡ false → is_lt (order y t) ≡ false
not_before t k y lt not = elim (order y t) as (λ r. order y t ≡ r → is_lt r ≡ false) [
  | Less ↦ λ e. let less : order k t ≡ Less = nat_list_cmp_total.trans k y t lt e in let is : is_lt (order k t) ≡ true = ap is_lt less in cc
  | Equal ↦ λ e. refl
  | Greater ↦ λ e. refl
] refl

none_before : (t k : List ℕ) (ks : List (List ℕ)) → AllByRecursion (λ y. order k y ≡ Less) ks → is_lt (order k t) ≡ false → AllByRecursion (λ y. is_lt (order y t) ≡ false) ks
none_before t k [] h not = tt
none_before t k (y ∷ ks) h not = (not_before t k y h.0 not, none_before t k ks h.1 not)

pub before_falls : (to : Option (List ℕ)) (ks : List (List ℕ)) → IsStrictlySortedBy order ks → Falls (is_before to) ks
before_falls to [] s = tt
before_falls None (k ∷ ks) s = (λ never. absurd cc, before_falls None ks (sorted_tail order k ks s))
before_falls (Some t) (k ∷ ks) s = (λ not. none_before t k ks (sorted_head order k ks s) not, before_falls (Some t) ks (sorted_tail order k ks s))

every : (es : List (List ℕ × Held)) → filter (λ e. true) es ≡ es
every [] = refl
every (e ∷ es) = ap (λ l. e ∷ l) (every es)

before_seen : (to : Option (List ℕ)) (es : List (List ℕ × Held)) → pairs_of (filter (λ e. is_before to e.0) es) ≡ before order to (pairs_of es)
before_seen None es = ap pairs_of (every es)
before_seen (Some t) es = sym (tested (λ y. is_lt (order y t)) es)

at_most_is : (most : Option ℕ) (ps : List Pair) → first_of most ps ≡ at_most most ps
at_most_is None ps = refl
at_most_is (Some n) ps = refl

pub range_asked : (from : List ℕ) (to : Option (List ℕ)) (most : Option ℕ) (es : List (List ℕ × Held)) (ps : List Pair) → pairs_of es ≡ from_on order from ps
    → flat_map pair_items (first_of most (pairs_of (filter (λ e. is_before to e.0) es))) ≡ map item_row (texts_of (at_most most (before order to (from_on order from ps))))
range_asked from to most es ps e =
    texts_rows _ ∙ ap (λ l. map item_row (texts_of l)) (at_most_is most (pairs_of (filter (λ e. is_before to e.0) es)) ∙ ap (at_most most) (before_seen to es ∙ ap (before order to) e))

-- ---- the two kinds

pub map_keys : (m : Map) (p : List ℕ) (es : List (List ℕ × List ℕ)) → es ≡ entries_on p m → keys_of es ≡ filter (λ y. is_ge (order y p)) (keys m)
map_keys m p es e = ap keys_of e ∙ keys_left (λ y. is_ge (order y p)) (entries m)
