-- The pairs that entries make, and what each change of one entry makes of them.
use Rattle.std.proofs.Common.{◌≡◌, ℕ, Bool, true, false, cond, List, [], ◌∷◌, ◌++◌, map, refl, sym, ap, subst, ◌∙◌, append_assoc, ◌&&◌}
use Rattle.std.specs.Prelude.{Some, None, filter}
use Rattle.std.specs.List.{AllByRecursion, dedup, dedup_from}
use Rattle.std.specs.List.Sorted.{IsStrictlySortedBy}
use Rattle.std.specs.declared.cmp.Ordering.{Ordering}
use Rattle.std.specs.declared.cmp.Ordering.TheVariants.{Less, Equal, Greater}
use Rattle.std.specs.Ordering.{nat_cmp, is_eq, is_lt, is_gt, is_ge, is_le, match_ordering, ordering_reverse}
use Rattle.std.specs.Cmp.Lexicographic.{slice_cmp, nat_list_cmp_total}
use Rattle.std.specs.Map.{lookup, keys_of, set_value, remove_entry}
use Rattle.std.specs.BTreeMap.{is_at, insert_entry}
use Rattle.std.specs.BTreeMap.Range.{entries_between}
use Rattle.std.specs.declared.ops.Bound.TheVariants.{Included, Unbounded}
use Rattle.std.proofs.lemmas.Map.Lookups.{exact_bytes}
use Rattle.std.proofs.lemmas.Map.Keys.{sorted_head, sorted_tail}
use Rattle.std.proofs.lemmas.List.{append-nil, map-append}
use Rattle.std.proofs.lemmas.List.Elements.{filter-append}
use Rattle.std.proofs.lemmas.Slice.Eq.{bytes_eq-Decides}
use Rattle.tc_base.specs.declared.seq.Pair.{Pair}
use Rattle.tc_base.specs.Texts.{is_text}
use Rattle.tc_base.specs.Lists.{pair, values, below, above, with_values, keys, from_on}
use Rattle.tc_maps.specs.Entries.{Held, all_of, values_at, pairs_at, pairs_of}

abbrev pub Entry : Type 0
Entry = List ℕ × Held

abbrev pub order : List ℕ → List ℕ → Ordering
order = slice_cmp nat_cmp

-- ---- the order

turned : (x y : List ℕ) (r : Ordering) → order x y ≡ r → order y x ≡ ordering_reverse r
turned x y r e = nat_list_cmp_total.antisymm y x ∙ ap ordering_reverse e

tied : (x : List ℕ) → order x x ≡ Equal
tied x = elim (order x x) as (λ r. order x x ≡ r → r ≡ Equal) [
  | Less ↦ λ e. let back : order x x ≡ Greater = turned x x Less e in cc
  | Equal ↦ λ e. refl
  | Greater ↦ λ e. let back : order x x ≡ Less = turned x x Greater e in cc
] refl

text_self : (x : List ℕ) → is_text x x ≡ true
text_self x = (bytes_eq-Decides x x).1 refl

text_same : (x y : List ℕ) → is_text x y ≡ true → x ≡ y
text_same x y h = (bytes_eq-Decides x y).0 h

-- the same bytes, where the order ties
pub text_at : (x y : List ℕ) → is_text x y ≡ is_eq (order y x)
text_at x y = elim (is_text x y) as (λ b. is_text x y ≡ b → b ≡ is_eq (order y x)) [
  | true ↦ λ e. let same : x ≡ y = text_same x y e in ap is_eq (sym (tied x)) ∙ ap (λ z. is_eq (order z x)) same
  | false ↦ λ e. elim (order y x) as (λ r. order y x ≡ r → false ≡ is_eq r) [
    | Less ↦ λ r. refl
    | Equal ↦ λ r. let same : y ≡ x = exact_bytes y x r in sym e ∙ ap (is_text x) same ∙ text_self x
    | Greater ↦ λ r. refl
  ] refl
] refl

pub text_tied : (x y : List ℕ) → is_text x y ≡ is_eq (order x y)
text_tied x y = text_at x y ∙ elim (order x y) as (λ r. order x y ≡ r → is_eq (order y x) ≡ is_eq r) [
  | Less ↦ λ e. ap is_eq (turned x y Less e)
  | Equal ↦ λ e. ap is_eq (turned x y Equal e)
  | Greater ↦ λ e. ap is_eq (turned x y Greater e)
] refl

-- ---- a test of keys

abbrev nothing : List Pair
nothing = []

-- the pairs of one key pass it or don't
one_key : (t : List ℕ → Bool) (x : List ℕ) (vs : List (List ℕ)) → filter (λ p. t p.key) (map (pair x) vs) ≡ cond (t x) (map (pair x) vs) []
one_key t x [] = elim (t x) as (λ b. nothing ≡ cond b nothing nothing) [ true ↦ refl | false ↦ refl ]
one_key t x (v ∷ vs) = ap (λ l. cond (t x) (pair x v ∷ l) l) (one_key t x vs) ∙ elim (t x) as (λ b. cond b (pair x v ∷ cond b (map (pair x) vs) []) (cond b (map (pair x) vs) []) ≡ cond b (map (pair x) (v ∷ vs)) []) [ true ↦ refl | false ↦ refl ]

-- so those of the entries are those of the entries that pass
pub tested : (t : List ℕ → Bool) (es : List Entry) → filter (λ p. t p.key) (pairs_of es) ≡ pairs_of (filter (λ e. t e.0) es)
tested t [] = refl
tested t (e ∷ es) =
    filter-append (λ (p : Pair). t p.key) (pairs_at e) (pairs_of es)
    ∙ ap (λ l. l ++ filter (λ p. t p.key) (pairs_of es)) (one_key t e.0 (all_of e.1))
    ∙ ap (λ l. cond (t e.0) (pairs_at e) [] ++ l) (tested t es)
    ∙ elim (t e.0) as (λ b. cond b (pairs_at e) [] ++ pairs_of (filter (λ e. t e.0) es) ≡ pairs_of (cond b (e ∷ filter (λ e. t e.0) es) (filter (λ e. t e.0) es))) [ true ↦ refl | false ↦ refl ]

-- where all keys pass, or none does
all_pass : (t : List ℕ → Bool) (es : List Entry) → AllByRecursion (λ y. t y ≡ true) (keys_of es) → filter (λ e. t e.0) es ≡ es
all_pass t [] h = refl
all_pass t (e ∷ es) h = ap (λ b. cond b (e ∷ filter (λ e. t e.0) es) (filter (λ e. t e.0) es)) h.0 ∙ ap (λ l. e ∷ l) (all_pass t es h.1)

none_pass : (t : List ℕ → Bool) (es : List Entry) → AllByRecursion (λ y. t y ≡ false) (keys_of es) → filter (λ e. t e.0) es ≡ []
none_pass t [] h = refl
none_pass t (e ∷ es) h = ap (λ b. cond b (e ∷ filter (λ e. t e.0) es) (filter (λ e. t e.0) es)) h.0 ∙ none_pass t es h.1

-- ---- entries above a key

-- what keys above k answer
lifted : {P Q : List ℕ → Type 0} → ((y : List ℕ) → P y → Q y) → (ks : List (List ℕ)) → AllByRecursion P ks → AllByRecursion Q ks
lifted f [] h = tt
lifted f (k ∷ ks) h = (f k h.0, lifted f ks h.1)

abbrev pub Under : List ℕ → List Entry → Type 0
Under k es = AllByRecursion (λ y. order k y ≡ Less) (keys_of es)

abbrev low : List ℕ → List Entry → List Entry
low k es = filter (λ e. is_lt (order e.0 k)) es

abbrev high : List ℕ → List Entry → List Entry
high k es = filter (λ e. is_gt (order e.0 k)) es

abbrev mid : List ℕ → List Entry → List Entry
mid k es = filter (λ e. is_text e.0 k) es

low_none : (k : List ℕ) (es : List Entry) → Under k es → low k es ≡ []
low_none k es h = none_pass (λ y. is_lt (order y k)) es (lifted (λ y e. ap is_lt (turned k y Less e)) (keys_of es) h)

high_all : (k : List ℕ) (es : List Entry) → Under k es → high k es ≡ es
high_all k es h = all_pass (λ y. is_gt (order y k)) es (lifted (λ y e. ap is_gt (turned k y Less e)) (keys_of es) h)

mid_none : (k : List ℕ) (es : List Entry) → Under k es → mid k es ≡ []
mid_none k es h = none_pass (λ y. is_text y k) es (lifted (λ y e. text_at y k ∙ ap is_eq e) (keys_of es) h)

below_that : (k x : List ℕ) (es : List Entry) → order k x ≡ Less → Under x es → Under k es
below_that k x es lt h = lifted (λ y e. nat_list_cmp_total.trans k x y lt e) (keys_of es) h

-- ---- what one entry is to the pairs

pub below_seen : (es : List Entry) (k : List ℕ) → below order (pairs_of es) k ≡ pairs_of (low k es)
below_seen es k = tested (λ y. is_lt (order y k)) es

pub above_seen : (es : List Entry) (k : List ℕ) → above order (pairs_of es) k ≡ pairs_of (high k es)
above_seen es k = tested (λ y. is_gt (order y k)) es

values_of_one : (x : List ℕ) (vs : List (List ℕ)) → map (λ p. p.value) (map (pair x) vs) ≡ vs
values_of_one x [] = refl
values_of_one x (v ∷ vs) = ap (λ l. v ∷ l) (values_of_one x vs)

-- the entry of a key, as a list
alone : (k : List ℕ) (es : List Entry) → IsStrictlySortedBy order (keys_of es) → map (λ p. p.value) (pairs_of (mid k es)) ≡ values_at (lookup (is_at (order k)) es)
alone k [] s = refl
alone k (e ∷ es) s =
    let up : Under e.0 es = sorted_head order e.0 (keys_of es) s in
    let rest = alone k es (sorted_tail order e.0 (keys_of es) s) in
    ap (λ b. map (λ p. p.value) (pairs_of (cond b (e ∷ mid k es) (mid k es)))) (text_at e.0 k)
    ∙ elim (order k e.0) as (λ r. order k e.0 ≡ r → map (λ p. p.value) (pairs_of (cond (is_eq r) (e ∷ mid k es) (mid k es))) ≡ values_at (cond (is_eq r) (Some e.1) (lookup (is_at (order k)) es))) [
      | Less ↦ λ r. rest
      | Equal ↦ λ r.
          let none : mid k es ≡ [] = ap (λ z. mid z es) (exact_bytes k e.0 r) ∙ mid_none e.0 es up in
          ap (λ l. map (λ p. p.value) (pairs_at e ++ pairs_of l)) none ∙ ap (λ l. map (λ p. p.value) l) (append-nil (pairs_at e)) ∙ values_of_one e.0 (all_of e.1)
      | Greater ↦ λ r. rest
    ] refl

pub values_seen : (es : List Entry) (k : List ℕ) → IsStrictlySortedBy order (keys_of es) → values (pairs_of es) k ≡ values_at (lookup (is_at (order k)) es)
values_seen es k s = ap (λ l. map (λ p. p.value) l) (tested (λ y. is_text y k) es) ∙ alone k es s

-- ---- one entry set

-- an entry set among entries of rising keys stands between those below and those above
inserted : (es : List Entry) (k : List ℕ) (v : Held) → IsStrictlySortedBy order (keys_of es) → insert_entry order es k v ≡ low k es ++ ((k, v) ∷ high k es)
inserted [] k v s = refl
inserted (e ∷ es) k v s =
    let up : Under e.0 es = sorted_head order e.0 (keys_of es) s in
    let rest = inserted es k v (sorted_tail order e.0 (keys_of es) s) in
    elim (order k e.0) as (λ r. order k e.0 ≡ r → match_ordering r ((k, v) ∷ e ∷ es) ((e.0, v) ∷ es) (e ∷ insert_entry order es k v) ≡ low k (e ∷ es) ++ ((k, v) ∷ high k (e ∷ es))) [
      | Less ↦ λ r.
          let under : Under k (e ∷ es) = (r, below_that k e.0 es r up) in
          sym (ap (λ l. l ++ ((k, v) ∷ high k (e ∷ es))) (low_none k (e ∷ es) under) ∙ ap (λ l. (k, v) ∷ l) (high_all k (e ∷ es) under))
      | Equal ↦ λ r.
          let same : k ≡ e.0 = exact_bytes k e.0 r in
          let back : order e.0 k ≡ Equal = turned k e.0 Equal r in
          let under : Under k es = subst (λ z. Under z es) (sym same) up in
          ap (λ z. (z, v) ∷ es) (sym same)
          ∙ sym (ap (λ o. cond (is_lt o) (e ∷ low k es) (low k es) ++ ((k, v) ∷ cond (is_gt o) (e ∷ high k es) (high k es))) back
          ∙ ap (λ l. l ++ ((k, v) ∷ high k es)) (low_none k es under) ∙ ap (λ l. (k, v) ∷ l) (high_all k es under))
      | Greater ↦ λ r.
          let back : order e.0 k ≡ Less = turned k e.0 Greater r in
          ap (λ l. e ∷ l) rest ∙ sym (ap (λ o. cond (is_lt o) (e ∷ low k es) (low k es) ++ ((k, v) ∷ cond (is_gt o) (e ∷ high k es) (high k es))) back)
    ] refl

pairs_append : (es fs : List Entry) → pairs_of (es ++ fs) ≡ pairs_of es ++ pairs_of fs
pairs_append [] fs = refl
pairs_append (e ∷ es) fs = ap (λ l. pairs_at e ++ l) (pairs_append es fs) ∙ sym (append_assoc (pairs_at e) (pairs_of es) (pairs_of fs))

pub entry_set : (es : List Entry) (k : List ℕ) (v : Held) → IsStrictlySortedBy order (keys_of es) → pairs_of (insert_entry order es k v) ≡ with_values order (pairs_of es) k (all_of v)
entry_set es k v s =
    ap pairs_of (inserted es k v s) ∙ pairs_append (low k es) ((k, v) ∷ high k es)
    ∙ sym (ap (λ l. l ++ (map (pair k) (all_of v) ++ above order (pairs_of es) k)) (below_seen es k) ∙ ap (λ l. pairs_of (low k es) ++ (map (pair k) (all_of v) ++ l)) (above_seen es k))

-- ---- one value written over

missing : (k : List ℕ) (es : List Entry) → Under k es → lookup (is_at (order k)) es ≡ None
missing k [] h = refl
missing k (e ∷ es) h = ap (λ r. cond (is_eq r) (Some e.1) (lookup (is_at (order k)) es)) h.0 ∙ missing k es h.1

pub written : (es : List Entry) (k : List ℕ) (v w : Held) → IsStrictlySortedBy order (keys_of es) → lookup (is_at (order k)) es ≡ Some v → set_value (is_at (order k)) es w ≡ insert_entry order es k w
written [] k v w s f = absurd cc
written (e ∷ es) k v w s f =
    let up : Under e.0 es = sorted_head order e.0 (keys_of es) s in
    elim (order k e.0) as (λ r. order k e.0 ≡ r → cond (is_eq r) (Some e.1) (lookup (is_at (order k)) es) ≡ Some v → cond (is_eq r) ((e.0, w) ∷ es) (e ∷ set_value (is_at (order k)) es w) ≡ match_ordering r ((k, w) ∷ e ∷ es) ((e.0, w) ∷ es) (e ∷ insert_entry order es k w)) [
      | Less ↦ λ r f. let none : lookup (is_at (order k)) es ≡ None = missing k es (below_that k e.0 es r up) in absurd cc
      | Equal ↦ λ r f. refl
      | Greater ↦ λ r f. ap (λ l. e ∷ l) (written es k v w (sorted_tail order e.0 (keys_of es) s) f)
    ] refl f

pub value_written : (es : List Entry) (k : List ℕ) (v w : Held) → IsStrictlySortedBy order (keys_of es) → lookup (is_at (order k)) es ≡ Some v → pairs_of (set_value (is_at (order k)) es w) ≡ with_values order (pairs_of es) k (all_of w)
value_written es k v w s f = ap pairs_of (written es k v w s f) ∙ entry_set es k w s

-- ---- one entry removed

removed : (es : List Entry) (k : List ℕ) → IsStrictlySortedBy order (keys_of es) → remove_entry (is_at (order k)) es ≡ low k es ++ high k es
removed [] k s = refl
removed (e ∷ es) k s =
    let up : Under e.0 es = sorted_head order e.0 (keys_of es) s in
    let rest = removed es k (sorted_tail order e.0 (keys_of es) s) in
    elim (order k e.0) as (λ r. order k e.0 ≡ r → cond (is_eq r) es (e ∷ remove_entry (is_at (order k)) es) ≡ low k (e ∷ es) ++ high k (e ∷ es)) [
      | Less ↦ λ r.
          let under : Under k es = below_that k e.0 es r up in
          let back : order e.0 k ≡ Greater = turned k e.0 Less r in
          ap (λ l. e ∷ l) rest ∙ ap (λ l. e ∷ (l ++ high k es)) (low_none k es under)
          ∙ sym (ap (λ o. cond (is_lt o) (e ∷ low k es) (low k es) ++ cond (is_gt o) (e ∷ high k es) (high k es)) back ∙ ap (λ l. l ++ (e ∷ high k es)) (low_none k es under))
      | Equal ↦ λ r.
          let same : k ≡ e.0 = exact_bytes k e.0 r in
          let back : order e.0 k ≡ Equal = turned k e.0 Equal r in
          let under : Under k es = subst (λ z. Under z es) (sym same) up in
          sym (ap (λ o. cond (is_lt o) (e ∷ low k es) (low k es) ++ cond (is_gt o) (e ∷ high k es) (high k es)) back ∙ ap (λ l. l ++ high k es) (low_none k es under) ∙ high_all k es under)
      | Greater ↦ λ r.
          let back : order e.0 k ≡ Less = turned k e.0 Greater r in
          ap (λ l. e ∷ l) rest ∙ sym (ap (λ o. cond (is_lt o) (e ∷ low k es) (low k es) ++ cond (is_gt o) (e ∷ high k es) (high k es)) back)
    ] refl

pub entry_removed : (es : List Entry) (k : List ℕ) → IsStrictlySortedBy order (keys_of es) → pairs_of (remove_entry (is_at (order k)) es) ≡ with_values order (pairs_of es) k []
entry_removed es k s =
    ap pairs_of (removed es k s) ∙ pairs_append (low k es) (high k es)
    ∙ sym (ap (λ l. l ++ above order (pairs_of es) k) (below_seen es k) ∙ ap (λ l. pairs_of (low k es) ++ l) (above_seen es k))

-- ---- keys

key_same : (k : List ℕ) (vs rest : List (List ℕ)) → dedup_from is_text k (map (λ p. p.key) (map (pair k) vs) ++ rest) ≡ dedup_from is_text k rest
key_same k [] rest = refl
key_same k (v ∷ vs) rest =
    let again : List (List ℕ) = map (λ p. p.key) (map (pair k) vs) ++ rest in
    ap (λ b. cond b (dedup_from is_text k again) (k ∷ dedup_from is_text k again)) (text_self k) ∙ key_same k vs rest

keys_at : (e : Entry) (es : List Entry) → keys (pairs_of (e ∷ es)) ≡ dedup_from is_text e.0 (map (λ p. p.key) (pairs_of es))
keys_at e es =
    ap (dedup is_text) (map-append (λ (p : Pair). p.key) (pairs_at e) (pairs_of es))
    ∙ key_same e.0 e.1.1 (map (λ p. p.key) (pairs_of es))

key_next : (k : List ℕ) (es : List Entry) → Under k es → dedup_from is_text k (map (λ p. p.key) (pairs_of es)) ≡ k ∷ keys (pairs_of es)
key_next k [] h = refl
key_next k (e ∷ es) h =
    let rest : List (List ℕ) = map (λ p. p.key) (map (pair e.0) e.1.1 ++ pairs_of es) in
    ap (λ b. cond b (dedup_from is_text k rest) (k ∷ dedup_from is_text e.0 rest)) (text_at e.0 k ∙ ap is_eq h.0)

pub keys_seen : (es : List Entry) → IsStrictlySortedBy order (keys_of es) → keys (pairs_of es) ≡ keys_of es
keys_seen [] s = refl
keys_seen (e ∷ es) s =
    keys_at e es ∙ key_next e.0 es (sorted_head order e.0 (keys_of es) s) ∙ ap (λ l. e.0 ∷ l) (keys_seen es (sorted_tail order e.0 (keys_of es) s))

-- ---- a range

pub le_from : (k y : List ℕ) → is_le (order k y) ≡ is_ge (order y k)
le_from k y = elim (order k y) as (λ r. order k y ≡ r → is_le r ≡ is_ge (order y k)) [
  | Less ↦ λ e. sym (ap is_ge (turned k y Less e))
  | Equal ↦ λ e. sym (ap is_ge (turned k y Equal e))
  | Greater ↦ λ e. sym (ap is_ge (turned k y Greater e))
] refl

pub from_same : {V : Type 0} (k : List ℕ) (es : List (List ℕ × V)) → entries_between order (Included k) Unbounded es ≡ filter (λ e. is_ge (order e.0 k)) es
from_same k [] = refl
from_same {V = V} k (e ∷ es) =
    let rest : List (List ℕ × V) = filter (λ e. is_ge (order e.0 k)) es in
    ap (λ l. cond (is_le (order k e.0) && true) (e ∷ l) l) (from_same k es)
    ∙ ap (λ b. cond (b && true) (e ∷ rest) rest) (le_from k e.0)
    ∙ elim (is_ge (order e.0 k)) as (λ b. cond (b && true) (e ∷ rest) rest ≡ cond b (e ∷ rest) rest) [ true ↦ refl | false ↦ refl ]

pub from_seen : (es fs : List Entry) (k : List ℕ) → fs ≡ entries_between order (Included k) Unbounded es → pairs_of fs ≡ from_on order k (pairs_of es)
from_seen es fs k e = ap pairs_of (e ∙ from_same k es) ∙ sym (tested (λ y. is_ge (order y k)) es)

all_left : {V : Type 0} (k : List ℕ) (t : List ℕ → Bool) (es : List (List ℕ × V)) → AllByRecursion (λ y. order k y ≡ Less) (keys_of es) → AllByRecursion (λ y. order k y ≡ Less) (keys_of (filter (λ e. t e.0) es))
all_left k t [] h = tt
all_left {V = V} k t (e ∷ es) h =
    let left : List (List ℕ × V) = filter (λ e. t e.0) es in
    elim (t e.0) as (λ b. AllByRecursion (λ y. order k y ≡ Less) (keys_of (cond b (e ∷ left) left))) [ true ↦ (h.0, all_left k t es h.1) | false ↦ all_left k t es h.1 ]

sorted_left : {V : Type 0} (t : List ℕ → Bool) (es : List (List ℕ × V)) → IsStrictlySortedBy order (keys_of es) → IsStrictlySortedBy order (keys_of (filter (λ e. t e.0) es))
unfolding IsStrictlySortedBy
sorted_left t [] s = tt
sorted_left {V = V} t (e ∷ es) s =
    let left : List (List ℕ × V) = filter (λ e. t e.0) es in
    elim (t e.0) as (λ b. IsStrictlySortedBy order (keys_of (cond b (e ∷ left) left))) [
      | true ↦ (all_left e.0 t es s.0, sorted_left t es s.1)
      | false ↦ sorted_left t es s.1
    ]

pub from_rising : {V : Type 0} (es fs : List (List ℕ × V)) (k : List ℕ) → IsStrictlySortedBy order (keys_of es) → fs ≡ entries_between order (Included k) Unbounded es → IsStrictlySortedBy order (keys_of fs)
from_rising {V = V} es fs k s e = subst (λ (l : List (List ℕ × V)). IsStrictlySortedBy order (keys_of l)) (sym e) (sorted_left (λ y. is_le (order k y) && true) es s)

pub keys_left : {V : Type 0} (t : List ℕ → Bool) (es : List (List ℕ × V)) → keys_of (filter (λ e. t e.0) es) ≡ filter t (keys_of es)
keys_left t [] = refl
keys_left {V = V} t (e ∷ es) =
    let left : List (List ℕ × V) = filter (λ e. t e.0) es in
    elim (t e.0) as (λ b. keys_of (cond b (e ∷ left) left) ≡ cond b (e.0 ∷ filter t (keys_of es)) (filter t (keys_of es))) [
      | true ↦ ap (λ l. e.0 ∷ l) (keys_left t es)
      | false ↦ keys_left t es
    ]

pub from_keys : (es fs : List Entry) (k : List ℕ) → IsStrictlySortedBy order (keys_of es) → fs ≡ entries_between order (Included k) Unbounded es → keys_of fs ≡ filter (λ y. is_ge (order y k)) (keys (pairs_of es))
from_keys es fs k s e = ap keys_of (e ∙ from_same k es) ∙ keys_left (λ y. is_ge (order y k)) es ∙ ap (λ l. filter (λ y. is_ge (order y k)) l) (sym (keys_seen es s))
