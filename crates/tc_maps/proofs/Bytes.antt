-- What setting a key and taking one out do to the bytes of all keys and values.
use Rattle.std.proofs.Common.{◌≡◌, ◌+◌, ◌++◌, ℕ, Bool, true, false, ◌&&◌, not, cond, List, [], ◌∷◌, length, refl, sym, ap, subst, ◌∙◌, arith, length-append}
use Rattle.std.specs.Prelude.{Option, Some, None, IsSome, T, unwrap_or, option_map}
use Rattle.std.specs.declared.cmp.Ordering.{Ordering}
use Rattle.std.specs.declared.cmp.Ordering.TheVariants.{Less, Equal, Greater}
use Rattle.std.specs.Ordering.{nat_cmp, is_eq, is_lt, eq_by_cmp}
use Rattle.std.specs.Cmp.{eq_by_cmp_equiv}
use Rattle.std.specs.Cmp.Lexicographic.{slice_cmp, nat_list_cmp_total}
use Rattle.std.specs.List.{sum_by}
use Rattle.std.specs.FinMap.{entries, empty, get, insert, remove, from_sorted, entries-insert, entries-from_sorted, entries_sorted, get-entries, get-remove, get-from_sorted, same_map, len-empty, len-entries}
use Rattle.std.specs.FinMap.Entries.{by_order, where_key, put, find, below_all, is_sorted, is_sorted-where_key, find-where_key}
use Rattle.std.proofs.lemmas.List.{nil_from_length}
use Rattle.std.proofs.lemmas.List.Sums.{sum_by-cons}
use Rattle.std.proofs.lemmas.Map.Lookups.{exact_bytes}
use Rattle.tc_base.specs.Maps.{Map}
use Rattle.tc_maps.specs.Sizes.{size_of, value_of}
use Rattle.tc_maps.specs.Sizes.{entry_size, size_gone}

abbrev Entry : Type 0
Entry = List ℕ × List ℕ

abbrev order : List ℕ → List ℕ → Ordering
order = slice_cmp nat_cmp

abbrev bytes : List Entry → ℕ
bytes = sum_by (λ e. length e.0 + length e.1)

bytes-cons : (e : Entry) (es : List Entry) → bytes (e ∷ es) ≡ (length e.0 + length e.1) + bytes es
bytes-cons e es = sum_by-cons (λ (e : Entry). length e.0 + length e.1) e es

first : (a b : Bool) → T (a && b) → T a
first true b p = tt
first false b p = p

second : (a b : Bool) → T (a && b) → T b
second true b p = p
second false b p = absurd p

less : (o : Ordering) → T (is_lt o) → o ≡ Less
less Less p = refl
less Equal p = absurd p
less Greater p = absurd p

tied : (o : Ordering) → is_eq o ≡ true → o ≡ Equal
tied Less e = cc
tied Equal e = refl
tied Greater e = cc

-- a key below all others isn't found
find_below : (k : List ℕ) (es : List Entry) → T (below_all order k es) → find order k es ≡ None
find_below k [] h = refl
find_below k (e ∷ es) h = ap (λ (o : Ordering). cond (is_eq o) (Some e.1) (find order k es)) (less _ (first _ _ h)) ∙ find_below k es (second _ _ h)

find_under : (k x : List ℕ) (es : List Entry) → order k x ≡ Less → T (below_all order x es) → find order k es ≡ None
find_under k x [] lt h = refl
find_under k x (e ∷ es) lt h =
    ap (λ (o : Ordering). cond (is_eq o) (Some e.1) (find order k es)) (nat_list_cmp_total.trans k x e.0 lt (less _ (first _ _ h))) ∙ find_under k x es lt (second _ _ h)

put_bytes : (k v : List ℕ) (es : List Entry) → T (is_sorted order es) → bytes (put order k v es) + entry_size (length k) (find order k es) ≡ bytes es + (length k + length v)
put_bytes k v [] h = omega (arith, bytes-cons (k, v) [])
put_bytes k v (e ∷ es) h =
    elim (order k e.0) as (λ r. order k e.0 ≡ r → bytes (by_order r ((k, v) ∷ e ∷ es) ((e.0, v) ∷ es) (e ∷ put order k v es)) + entry_size (length k) (cond (is_eq r) (Some e.1) (find order k es)) ≡ bytes (e ∷ es) + (length k + length v)) [
      | Less ↦ λ p. let none : entry_size (length k) (find order k es) ≡ 0 = ap (entry_size (length k)) (find_under k e.0 es p (first _ _ h)) in omega (arith, none, bytes-cons (k, v) (e ∷ es))
      | Equal ↦ λ p. omega (arith, ap length (exact_bytes k e.0 p), bytes-cons (e.0, v) es, bytes-cons e es)
      | Greater ↦ λ p. omega (arith, put_bytes k v es (second _ _ h), bytes-cons e (put order k v es), bytes-cons e es)
    ] refl

pub size-insert : (m : Map) (k v : List ℕ) → size_of (insert m k v) + entry_size (length k) (get m k) ≡ size_of m + (length k + length v)
size-insert m k v =
    ap (λ (es : List Entry). bytes es + entry_size (length k) (get m k)) (entries-insert nat_list_cmp_total m k v)
    ∙ ap (λ (o : Option (List ℕ)). bytes (put order k v (entries m)) + entry_size (length k) o) (get-entries m k)
    ∙ put_bytes k v (entries m) (entries_sorted m)

-- ---- taking out

abbrev kept : List ℕ → List ℕ → Bool
kept k x = not (eq_by_cmp order k x)

left_bytes : (k : List ℕ) (es : List Entry) → T (is_sorted order es) → bytes (where_key order (kept k) es) + entry_size (length k) (find order k es) ≡ bytes es
left_bytes k [] h = omega arith
left_bytes k (e ∷ es) h =
    let left : List Entry = where_key order (kept k) es in
    let rest : bytes (where_key order (kept k) es) + entry_size (length k) (find order k es) ≡ bytes es = left_bytes k es (second (below_all order e.0 es) (is_sorted order es) h) in
    elim (eq_by_cmp order k e.0) as (λ t. eq_by_cmp order k e.0 ≡ t → bytes (cond (not t) (e ∷ left) left) + entry_size (length k) (cond t (Some e.1) (find order k es)) ≡ bytes (e ∷ es)) [
      | true ↦ λ t.
          let same : k ≡ e.0 = exact_bytes k e.0 (tied (order k e.0) t) in
          let none : entry_size (length k) (find order k es) ≡ 0 = ap (entry_size (length k)) (find_below k es (subst (λ (x : List ℕ). T (below_all order x es)) (sym same) (first (below_all order e.0 es) (is_sorted order es) h))) in
          omega (arith, rest, none, ap length same, bytes-cons e es)
      | false ↦ λ t. omega (arith, rest, bytes-cons e left, bytes-cons e es)
    ] refl

turned : (a b : Bool) (x y : Option (List ℕ)) → a ≡ b → cond (not a) x y ≡ cond b y x
turned true b x y e = ap (λ c. cond c y x) e
turned false b x y e = ap (λ c. cond c y x) e

entries-remove : (m : Map) (k : List ℕ) → entries (remove m k) ≡ where_key order (kept k) (entries m)
entries-remove m k =
    let es = entries m in
    let rising = is_sorted-where_key order (kept k) es (entries_sorted m) in
    let same : remove m k ≡ from_sorted (where_key order (kept k) es) = same_map nat_list_cmp_total exact_bytes _ _ (λ q.
    get-remove nat_list_cmp_total m k q
    ∙ sym (get-from_sorted order (where_key order (kept k) es) q rising
    ∙ find-where_key order (kept k) q (λ x t. ap (kept k) (sym (exact_bytes q x t))) es
    ∙ ap (λ (o : Option (List ℕ)). cond (kept k q) o None) (sym (get-entries m q))
    ∙ turned (eq_by_cmp order k q) (eq_by_cmp order q k) (get m q) None ((eq_by_cmp_equiv nat_list_cmp_total).symm k q))) in
    ap entries same ∙ entries-from_sorted order (where_key order (kept k) es) rising

pub size-remove : (m : Map) (k : List ℕ) → size_of (remove m k) + entry_size (length k) (get m k) ≡ size_of m
size-remove m k =
    ap (λ (es : List Entry). bytes es + entry_size (length k) (get m k)) (entries-remove m k)
    ∙ ap (λ (o : Option (List ℕ)). bytes (where_key order (kept k) (entries m)) + entry_size (length k) o) (get-entries m k)
    ∙ left_bytes k (entries m) (entries_sorted m)

pub size-empty : size_of empty ≡ 0
size-empty = ap bytes (nil_from_length (entries empty) (sym (len-entries empty) ∙ len-empty order (List ℕ)))

-- ---- joining

held_value : (o : Option (List ℕ)) → IsSome o → (v : List ℕ) × (o ≡ Some v)
held_value None some = let never : false ≡ true = some in absurd cc
held_value (Some v) some = (v, refl)

pub size-joined : (m : Map) (k more : List ℕ) → IsSome (get m k) → size_of (insert m k (value_of m k ++ more)) ≡ size_of m + length more
size-joined m k more some =
    let held = held_value (get m k) some in
    let value : value_of m k ≡ held.0 = ap (λ (o : Option (List ℕ)). unwrap_or o []) held.1 in
    let one : entry_size (length k) (get m k) ≡ length k + length held.0 = ap (entry_size (length k)) held.1 in
    omega (arith, size-insert m k (value_of m k ++ more), one, length-append (value_of m k) more, ap length value)

-- ---- lengths in place of values

pub gone_is : (key : ℕ) (o : Option (List ℕ)) → size_gone key (option_map length o) ≡ entry_size key o
gone_is key None = refl
gone_is key (Some v) = refl

pub gone_same : (key n : ℕ) (o : Option (List ℕ)) (p : Option ℕ) → n ≡ key → p ≡ option_map length o → size_gone n p ≡ entry_size key o
gone_same key n o p e f = ap (λ n. size_gone n p) e ∙ ap (size_gone key) f ∙ gone_is key o
