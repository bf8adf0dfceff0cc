-- Many keys, one after the other.
use Rattle.std.proofs.Common.{◌≡◌, ◌∙◌, ◌⊎◌, inl, inr, ⊎_elim, ℕ, zero, suc, ◌+◌, ◌<◌, Bool, true, false, cond, ◌&&◌, List, [], ◌∷◌, ◌++◌, length, take, refl, sym, ap, subst, arith}
use Rattle.std.specs.Prelude.{Option, Some, None, option_map, option_and_then, is_some, unwrap_or, fold, filter}
use Rattle.std.specs.List.{AllByRecursion, list_all}
use Rattle.std.specs.List.Sorted.{IsStrictlySortedBy}
use Rattle.std.specs.Map.{keys_of}
use Rattle.std.specs.declared.cmp.Ordering.{Ordering}
use Rattle.std.specs.declared.cmp.Ordering.TheVariants.{Less, Equal, Greater}
use Rattle.std.specs.Ordering.{eq_by_cmp, is_eq, is_ge, nat_cmp}
use Rattle.std.specs.Cmp.Lexicographic.{nat_list_cmp_total, slice_cmp}
use Rattle.std.specs.FinMap.{empty, entries, find, get, get-empty, get-entries, get-insert, insert, remove, same_map}
use Rattle.std.proofs.lemmas.Cmp.{tied_itself}
use Rattle.std.proofs.lemmas.List.Sums.{fold-append}
use Rattle.std.proofs.lemmas.Map.Keys.{sorted_head, sorted_tail}
use Rattle.std.proofs.lemmas.Map.Lookups.{exact_bytes}
use Rattle.std.proofs.Math.ListN.{get_or}
use Rattle.tc_base.specs.Maps.{Map}
use Rattle.tc_base.specs.Orders.{lexical}
use Rattle.tc_base.specs.declared.kind.Mode.TheVariants.{Over}
use Rattle.tc_base.specs.declared.seq.Pair.{Pair}
use Rattle.tc_maps.specs.Sizes.{entries_on}
use Rattle.tc_model.specs.Contents.{Contents, hash}
use Rattle.tc_model.specs.Stores.{clear, put_last, store}
use Rattle.tc_engine.specs.Changes.{all_pushed, all_stored}
use Rattle.tc_hashdb.specs.Changing.{all_out, all_set, is_short, last_values, out_one, set_entries, set_one}
use Rattle.tc_hashdb.specs.Filling.{FillsBy, WantsKey}
use Rattle.tc_hashdb.proofs.Filled.{between_out}

abbrev pub Entry : Type 0
Entry = List ℕ × List ℕ

abbrev pub order : List ℕ → List ℕ → Ordering
order = slice_cmp nat_cmp

-- ---- what several puts leave of a key

abbrev over : Option (List ℕ) → Option (List ℕ) → Option (List ℕ)
over None o = o
over (Some v) o = Some v

over_again : (a b c : Option (List ℕ)) → over (over a b) c ≡ over a (over b c)
over_again None b c = refl
over_again (Some v) b c = refl

over_one : (b : Bool) (v : List ℕ) (o : Option (List ℕ)) → cond b (Some v) o ≡ over (cond b (Some v) None) o
over_one true v o = refl
over_one false v o = refl

pub get_set : (m : Map) (k v q : List ℕ) → get (insert m k v) q ≡ cond (eq_by_cmp order q k) (Some v) (get m q)
get_set m k v q = get-insert nat_list_cmp_total m k v q

abbrev pub nothing : Map
nothing = empty

pub get_none : (q : List ℕ) → get nothing q ≡ None
get_none q = get-empty order q

put_over : (m : Map) (k v q : List ℕ) → get (insert m k v) q ≡ over (get (insert nothing k v) q) (get m q)
put_over m k v q =
    get_set m k v q ∙ over_one (eq_by_cmp order q k) v (get m q)
    ∙ ap (λ o. over o (get m q)) (sym (get_set nothing k v q ∙ ap (λ o. cond (eq_by_cmp order q k) (Some v) o) (get_none q)))

all_over : (ps : List Pair) (m : Map) (q : List ℕ) → get (all_set ps m) q ≡ over (get (all_set ps nothing) q) (get m q)
all_over [] m q = ap (λ o. over o (get m q)) (sym (get_none q))
all_over (p ∷ ps) m q =
    all_over ps (insert m p.key p.value) q
    ∙ (ap (over (get (all_set ps nothing) q)) (put_over m p.key p.value q)
    ∙ (sym (over_again (get (all_set ps nothing) q) (get (insert nothing p.key p.value) q) (get m q))
    ∙ ap (λ o. over o (get m q)) (sym (all_over ps (insert nothing p.key p.value) q))))

-- ---- entries, each key once

abbrev pub Once : List Entry → Type 0
Once [] = Unit {0}
Once (e ∷ es) = (find order e.0 es ≡ None) × Once es

less_none : (k : List ℕ) (es : List Entry) → AllByRecursion (λ y. order k y ≡ Less) (keys_of es) → find order k es ≡ None
less_none k [] all = refl
less_none k (e ∷ es) all = ap (λ r. cond (is_eq r) (Some e.1) (find order k es)) all.0 ∙ less_none k es all.1

pub rising_once : (es : List Entry) → IsStrictlySortedBy order (keys_of es) → Once es
rising_once [] s = tt
rising_once (e ∷ es) s = (less_none e.0 es (sorted_head order e.0 (keys_of es) s), rising_once es (sorted_tail order e.0 (keys_of es) s))

at_once : (q : List ℕ) (e : Entry) (es : List Entry) (o : Option (List ℕ)) → find order e.0 es ≡ None → over (find order q es) (cond (eq_by_cmp order q e.0) (Some e.1) o) ≡ over (cond (eq_by_cmp order q e.0) (Some e.1) (find order q es)) o
at_once q e es o none = elim (order q e.0) as (λ r. order q e.0 ≡ r → over (find order q es) (cond (is_eq r) (Some e.1) o) ≡ over (cond (is_eq r) (Some e.1) (find order q es)) o) [
  | Less ↦ λ is. refl
  | Equal ↦ λ is. ap (λ x. over x (Some e.1)) (subst (λ k. find order k es ≡ None) (sym (exact_bytes q e.0 is)) none)
  | Greater ↦ λ is. refl
] refl

once_over : (es : List Entry) (m : Map) (q : List ℕ) → Once es → get (set_entries m es) q ≡ over (find order q es) (get m q)
once_over [] m q once = refl
once_over (e ∷ es) m q once =
    once_over es (insert m e.0 e.1) q once.1
    ∙ (ap (over (find order q es)) (get_set m e.0 e.1 q) ∙ at_once q e es (get m q) once.0)

-- the last values of pairs, set one after the other, are all that the pairs set
pub last_set : (ps : List Pair) (m : Map) → IsStrictlySortedBy order (keys_of (entries (last_values ps))) → set_entries m (entries (last_values ps)) ≡ all_set ps m
last_set ps m rising = same_map nat_list_cmp_total exact_bytes _ _ (λ q.
    once_over (entries (last_values ps)) m q (rising_once (entries (last_values ps)) rising)
    ∙ (ap (λ o. over o (get m q)) (sym (get-entries (last_values ps) q)) ∙ sym (all_over ps m q)))

-- ---- all entries are those from the least key on

from_least : (k : List ℕ) → is_ge (lexical k []) ≡ true
from_least [] = refl
from_least (x ∷ xs) = refl

all_from : (es : List Entry) → filter (λ e. is_ge (lexical e.0 [])) es ≡ es
all_from [] = refl
all_from (e ∷ es) = ap (λ b. cond b (e ∷ filter (λ e. is_ge (lexical e.0 [])) es) (filter (λ e. is_ge (lexical e.0 [])) es)) (from_least e.0) ∙ ap (λ l. e ∷ l) (all_from es)

pub all_entries : (m : Map) → entries_on [] m ≡ entries m
all_entries m = all_from (entries m)

-- ---- a record on the way is one from before, or one of those in the end

find_front : (q v : List ℕ) (es fs : List Entry) → find order q es ≡ Some v → find order q (es ++ fs) ≡ Some v
find_front q v [] fs is = absurd (let never = is in cc)
find_front q v (e ∷ es) fs is = elim (eq_by_cmp order q e.0) as (λ b. cond b (Some e.1) (find order q es) ≡ Some v → cond b (Some e.1) (find order q (es ++ fs)) ≡ Some v) [
  | true ↦ λ is. is
  | false ↦ λ is. find_front q v es fs is
] is

find_fewer : (q : List ℕ) (es fs : List Entry) → find order q (es ++ fs) ≡ None → find order q es ≡ None
find_fewer q [] fs is = refl
find_fewer q (e ∷ es) fs is = elim (eq_by_cmp order q e.0) as (λ b. cond b (Some e.1) (find order q (es ++ fs)) ≡ None → cond b (Some e.1) (find order q es) ≡ None) [
  | true ↦ λ is. is
  | false ↦ λ is. find_fewer q es fs is
] is

once_front : (es fs : List Entry) → Once (es ++ fs) → Once es
once_front [] fs once = tt
once_front (e ∷ es) fs once = (find_fewer e.0 es fs once.0, once_front es fs once.1)

-- a key on the way has what it had before, or what it has in the end
on_the_way : (es fs : List Entry) (m : Map) (q : List ℕ) → Once (es ++ fs) → (get (set_entries m es) q ≡ get m q) ⊎ (get (set_entries m es) q ≡ get (set_entries m (es ++ fs)) q)
on_the_way es fs m q once = go (find order q es) refl
  where
    here : get (set_entries m es) q ≡ over (find order q es) (get m q)
    here = once_over es m q (once_front es fs once)

    go : (o : Option (List ℕ)) → find order q es ≡ o → (get (set_entries m es) q ≡ get m q) ⊎ (get (set_entries m es) q ≡ get (set_entries m (es ++ fs)) q)
    go None is = inl (here ∙ ap (λ o. over o (get m q)) is)
    go (Some v) is = inr (here ∙ ap (λ o. over o (get m q)) is ∙ sym (once_over (es ++ fs) m q once ∙ ap (λ o. over o (get m q)) (find_front q v es fs is)))

same_key : (k : List ℕ) → eq_by_cmp order k k ≡ true
same_key k = rw (tied_itself nat_list_cmp_total k) refl

pub find_at : (es : List Entry) (e : Entry) (fs : List Entry) → Once (es ++ e ∷ fs) → find order e.0 (es ++ e ∷ fs) ≡ Some e.1
find_at [] e fs once = ap (λ b. cond b (Some e.1) (find order e.0 fs)) (same_key e.0)
find_at (x ∷ es) e fs once = elim (order e.0 x.0) as (λ r. order e.0 x.0 ≡ r → cond (is_eq r) (Some x.1) (find order e.0 (es ++ e ∷ fs)) ≡ Some e.1) [
  | Less ↦ λ is. find_at es e fs once.1
  | Equal ↦ λ is. absurd (let never = sym (subst (λ k. find order k (es ++ e ∷ fs) ≡ Some e.1) (exact_bytes e.0 x.0 is) (find_at es e fs once.1)) ∙ once.0 in cc)
  | Greater ↦ λ is. find_at es e fs once.1
] refl

pub set_next : (es : List Entry) (e : Entry) (m : Map) → set_entries m (es ++ e ∷ []) ≡ set_one (set_entries m es) e.0 e.1
set_next es e m = fold-append (λ (n : Map) (e : Entry). set_one n e.0 e.1) m es (e ∷ [])

-- those that were set, the next one, and those behind it
pub fills_on : (limit : ℕ) (log brought : Type 0) (bytes : List ℕ) (all es fs : List Entry) (e : Entry) (m : Map) → IsStrictlySortedBy order (keys_of all) → all ≡ es ++ e ∷ fs → log ⊎ (brought × WantsKey limit bytes (set_entries m es) e.0 e.1) → FillsBy limit log brought bytes m (set_entries m all)
fills_on limit log brought bytes all es fs e m rising is (inl full) = inl full
fills_on limit log brought bytes all es fs e m rising is (inr x) =
    let once : Once (es ++ e ∷ fs) = subst Once is (rising_once all rising) in
    let on : (k : List ℕ) → (get (set_entries m es) k ≡ get m k) ⊎ (get (set_entries m es) k ≡ get (set_entries m all) k) = λ k.
    ⊎_elim (λ first. inl first) (λ last. inr (last ∙ sym (ap (λ l. get (set_entries m l) k) is))) (on_the_way es (e ∷ fs) m k once) in
    let there : get (set_entries m all) e.0 ≡ Some e.1 = ap (λ l. get (set_entries m l) e.0) is ∙ once_over (es ++ e ∷ fs) m e.0 once ∙ ap (λ o. over o (get m e.0)) (find_at es e fs once) in
    inr (
      x.0,
      record {
        held = x.1.held;
        key = e.0;
        value = e.1;
        between = between_out (set_entries m es) x.1.held m (set_entries m all) e.0 e.1 x.1.kept there on;
        there = there;
        wants = x.1.wants;
      },
    )

-- ---- one more

one_more : {A : Type 0} (xs : List A) (i : ℕ) (x : A) → i < length xs → x ≡ get_or xs i x → take (i + 1) xs ≡ take i xs ++ x ∷ []
one_more [] i x lt is = absurd (omega (arith, lt))
one_more (y ∷ xs) zero x lt is = ap (λ z. z ∷ []) (sym is)
one_more (y ∷ xs) (suc i) x lt is = ap (λ n. take n (y ∷ xs)) (next i) ∙ ap (λ l. y ∷ l) (one_more xs i x (omega (arith, lt)) is)
  where
    next : (i : ℕ) → suc i + 1 ≡ suc (i + 1)
    next i = omega arith

pub out_on : (ks : List (List ℕ)) (i : ℕ) (k : List ℕ) (m : Map) → i < length ks → k ≡ get_or ks i k → out_one (all_out (take i ks) m) k ≡ all_out (take (i + 1) ks) m
out_on ks i k m lt is = sym (ap (λ l. all_out l m) (one_more ks i k lt is) ∙ fold-append out_one m (take i ks) (k ∷ []))

-- ---- the same of contents

abbrev storing : Option Contents → List Pair → Option Contents
storing o ps = fold (λ o p. option_and_then (λ c. store Over c p.key p.value) o) o ps

storing_none : (ps : List Pair) → storing None ps ≡ None
storing_none [] = refl
storing_none (p ∷ ps) = storing_none ps

pub stored_all : (m : Map) (ps : List Pair) → all_stored ps (hash false m) ≡ cond (list_all is_short ps) (Some (hash false (all_set ps m))) None
stored_all m [] = refl
stored_all m (p ∷ ps) =
    elim (is_short p) as (λ b. storing (option_map (hash false) (option_map (insert m p.key) (cond b (Some p.value) None))) ps ≡ cond (b && list_all is_short ps) (Some (hash false (all_set ps (insert m p.key p.value)))) None) [
      | true ↦ stored_all (insert m p.key p.value) ps
      | false ↦ storing_none ps
    ]

pub pushed_none : (m : Map) (p : Pair) (ps : List Pair) → all_pushed (p ∷ ps) (hash false m) ≡ None
pushed_none m p ps = none_more ps
  where
    none_more : (ps : List Pair) → fold (λ o p. option_and_then (λ (c : Contents). put_last c p.key p.value) o) None ps ≡ None
    none_more [] = refl
    none_more (p ∷ ps) = none_more ps

cleared_one : (m : Map) (key : List ℕ) → clear (hash false m) key ≡ hash false (out_one m key)
cleared_one m key = elim (is_some (get m key)) as (λ b. unwrap_or (option_map (hash false) (cond b (Some (remove m key)) None)) (hash false m) ≡ hash false (unwrap_or (cond b (Some (remove m key)) None) m)) [
  | true ↦ refl
  | false ↦ refl
]

pub cleared_all : (m : Map) (ks : List (List ℕ)) → fold clear (hash false m) ks ≡ hash false (all_out ks m)
cleared_all m [] = refl
cleared_all m (k ∷ ks) = ap (λ c. fold clear c ks) (cleared_one m k) ∙ cleared_all (out_one m k) ks
