-- What is counted of a map, before and after an id is given a value or taken out.
use Rattle.std.proofs.Common.{◌≡◌, ◌≢◌, ◌⊎◌, inl, inr, ℕ, ◌+◌, ◌-◌, ◌*◌, ◌^◌, ◌<◌, ◌≤◌, Bool, true, false, not, cond, List, [], ◌∷◌, map, length, refl, sym, ap, ◌∙◌, arith}
use Rattle.std.specs.Prelude.{Option, Some, None, IsSome, is_some, option_map, sum_by, max}
use Rattle.std.specs.Ordering.{nat_cmp, eq_by_cmp}
use Rattle.std.specs.Cmp.{nat_cmp_total, eq_by_cmp_equiv}
use Rattle.std.specs.Fmt.{decimal}
use Rattle.std.specs.FinMap.{entries, empty, get, insert, remove, len, from_sorted, entries-insert, entries-from_sorted, entries_sorted, get-entries, get-empty, get-insert, get-remove, get-from_sorted, same_map, len-empty, len-entries, len-insert, len-remove, nat_cmp-IsAntisymmetric}
use Rattle.std.specs.FinMap.Entries.{where_key, put, find, is_sorted-where_key, find-where_key}
use Rattle.std.proofs.lemmas.Bool.{cases_eq, cases_lt}
use Rattle.std.proofs.lemmas.List.{nil_from_length}
use Rattle.std.proofs.lemmas.List.Sums.{sum_by-cons}
use Rattle.std.proofs.lemmas.Fmt.{length-decimal-le}
use Rattle.tc_model.specs.Arrays.{Array, least, greatest}
use Rattle.tc_fixed.specs.Tallies.{bytes_held, Counts, IsSmall}
use Rattle.tc_fixed.proofs.Entries.{Entry, tied, untied, front, back, front_first, back_last, front_held, back_held, few, total, gone, total-put, total-without, total-most}

-- ---- one id changed

pub get_here : (m : Array) (id : ℕ) (v : List ℕ) → get (insert m id v) id ≡ Some v
get_here m id v = get-insert nat_cmp_total m id v id ∙ ap (λ (b : Bool). cond b (Some v) (get m id)) (tied id)

pub get_other : (m : Array) (id : ℕ) (v : List ℕ) (q : ℕ) → q ≢ id → get (insert m id v) q ≡ get m q
get_other m id v q ne = get-insert nat_cmp_total m id v q ∙ ap (λ (b : Bool). cond b (Some v) (get m q)) (untied q id ne)

pub gone_here : (m : Array) (id : ℕ) → get (remove m id) id ≡ None
gone_here m id = get-remove nat_cmp_total m id id ∙ ap (λ (b : Bool). cond b None (get m id)) (tied id)

pub gone_other : (m : Array) (id q : ℕ) → q ≢ id → get (remove m id) q ≡ get m q
gone_other m id q ne = get-remove nat_cmp_total m id q ∙ ap (λ (b : Bool). cond b None (get m q)) (untied q id ne)

pub held_not : {A : Type 0} (o : Option A) → o ≡ None → IsSome o → ⊥
held_not o none some = let never : false ≡ true = sym (ap is_some none) ∙ some in absurd cc

pub held_or_not : {A : Type 0} (o : Option A) → IsSome o ⊎ (o ≡ None)
held_or_not None = inr refl
held_or_not (Some x) = inl refl

-- ---- the least and the greatest

in_entries : (m : Array) (q : ℕ) → IsSome (get m q) → IsSome (find nat_cmp q (entries m))
in_entries m q some = sym (ap is_some (get-entries m q)) ∙ some

from_entries : (m : Array) (q : ℕ) → IsSome (find nat_cmp q (entries m)) → IsSome (get m q)
from_entries m q some = ap is_some (get-entries m q) ∙ some

pub least_low : (m : Array) (q : ℕ) → IsSome (get m q) → least m ≤ q
least_low m q some = (front_first (entries m) q (entries_sorted m) (in_entries m q some)).1

pub greatest_high : (m : Array) (q : ℕ) → IsSome (get m q) → q ≤ greatest m
greatest_high m q some = (back_last (entries m) q (entries_sorted m) (in_entries m q some)).1

pub least_some : (m : Array) (q : ℕ) → IsSome (get m q) → IsSome (get m (least m))
least_some m q some = from_entries m (least m) (front_first (entries m) q (entries_sorted m) (in_entries m q some)).0

pub greatest_some : (m : Array) (q : ℕ) → IsSome (get m q) → IsSome (get m (greatest m))
greatest_some m q some = from_entries m (greatest m) (back_last (entries m) q (entries_sorted m) (in_entries m q some)).0

pub least_held : (m : Array) → 1 ≤ least m → IsSome (get m (least m))
least_held m h = from_entries m (least m) (front_held (entries m) h)

pub greatest_held : (m : Array) → 1 ≤ greatest m → IsSome (get m (greatest m))
greatest_held m h = from_entries m (greatest m) (back_held (entries m) (entries_sorted m) h)

pub none_below : (m : Array) (q : ℕ) → q < least m → get m q ≡ None
none_below m q h = elim (held_or_not (get m q)) [
  | inl some ↦ absurd (omega (arith, h, least_low m q some))
  | inr none ↦ none
]

pub none_above : (m : Array) (q : ℕ) → greatest m < q → get m q ≡ None
none_above m q h = elim (held_or_not (get m q)) [
  | inl some ↦ absurd (omega (arith, h, greatest_high m q some))
  | inr none ↦ none
]

pub least_is : (m : Array) (n : ℕ) → IsSome (get m n) → ((q : ℕ) → q < n → get m q ≡ None) → n ≡ least m
least_is m n some none = elim (cases_lt (least m) n) [
  | inl less ↦ absurd (held_not (get m (least m)) (none (least m) less) (least_some m n some))
  | inr le ↦ omega (arith, le, least_low m n some)
]

pub greatest_is : (m : Array) (n : ℕ) → IsSome (get m n) → ((q : ℕ) → n < q → get m q ≡ None) → n ≡ greatest m
greatest_is m n some none = elim (cases_lt n (greatest m)) [
  | inl less ↦ absurd (held_not (get m (greatest m)) (none (greatest m) less) (greatest_some m n some))
  | inr le ↦ omega (arith, le, greatest_high m n some)
]

no_entries : entries (empty {X = List ℕ} {R = nat_cmp}) ≡ []
no_entries = nil_from_length (entries (empty {X = List ℕ} {R = nat_cmp})) (sym (len-entries (empty {X = List ℕ} {R = nat_cmp})) ∙ len-empty nat_cmp (List ℕ))

pub least_empty : least empty ≡ 0
least_empty = ap front no_entries

pub greatest_empty : greatest empty ≡ 0
greatest_empty = ap back no_entries

pub none_held : (m : Array) → ((q : ℕ) → get m q ≡ None) → m ≡ empty
none_held m none = same_map nat_cmp_total nat_cmp-IsAntisymmetric m empty (λ q. none q ∙ sym (get-empty nat_cmp q))

-- ---- with another value

pub least_lower : (m : Array) (id : ℕ) (v : List ℕ) → id < least m → id ≡ least (insert m id v)
least_lower m id v low = least_is (insert m id v) id (ap is_some (get_here m id v)) (λ q less. get_other m id v q (λ same. omega (arith, same, less)) ∙ none_below m q (omega (arith, less, low)))

pub least_only : (m : Array) (id : ℕ) (v : List ℕ) → ((q : ℕ) → IsSome (get m q) → 1 ≤ q) → least m ≡ 0 → id ≡ least (insert m id v)
least_only m id v some none = least_is (insert m id v) id (ap is_some (get_here m id v)) (λ q less. get_other m id v q (λ same. omega (arith, same, less)) ∙ elim (held_or_not (get m q)) [
  | inl held ↦ absurd (omega (arith, none, some (least m) (least_some m q held)))
  | inr is ↦ is
])

pub least_kept : (m : Array) (id : ℕ) (v : List ℕ) → 1 ≤ least m → least m ≤ id → least m ≡ least (insert m id v)
least_kept m id v some low = least_is (insert m id v) (least m) held (λ q less. get_other m id v q (λ same. omega (arith, same, less, low)) ∙ none_below m q less)
  where
    held : IsSome (get (insert m id v) (least m))
    held = elim (cases_eq (least m) id) [
      | inl same ↦ ap (λ q. is_some (get (insert m id v) q)) same ∙ ap is_some (get_here m id v)
      | inr ne ↦ ap is_some (get_other m id v (least m) ne) ∙ least_held m some
    ]

pub greatest_with : (m : Array) (id : ℕ) (v : List ℕ) → 1 ≤ id → max (greatest m) id ≡ greatest (insert m id v)
greatest_with m id v some = elim (cases_lt (greatest m) id) [
  | inl less ↦ omega (arith, less, greatest_is (insert m id v) id (ap is_some (get_here m id v)) (λ q more. get_other m id v q (λ same. omega (arith, same, more)) ∙ none_above m q (omega (arith, less, more))))
  | inr le ↦ omega (arith, le, greatest_is (insert m id v) (greatest m) (held le) (λ q more. get_other m id v q (λ same. omega (arith, same, more, le)) ∙ none_above m q more))
]
  where
    held : id ≤ greatest m → IsSome (get (insert m id v) (greatest m))
    held le = elim (cases_eq (greatest m) id) [
      | inl same ↦ ap (λ q. is_some (get (insert m id v) q)) same ∙ ap is_some (get_here m id v)
      | inr ne ↦ ap is_some (get_other m id v (greatest m) ne) ∙ greatest_held m (omega (arith, some, le))
    ]

-- ---- how many

pub len_more : (m : Array) (id : ℕ) (v : List ℕ) → get m id ≡ None → len (insert m id v) ≡ len m + 1
len_more m id v none = len-insert nat_cmp_total m id v ∙ ap (λ (o : Option (List ℕ)). cond (is_some o) (len m) (len m + 1)) none

pub len_same : (m : Array) (id : ℕ) (v w : List ℕ) → get m id ≡ Some w → len (insert m id v) ≡ len m
len_same m id v w is = len-insert nat_cmp_total m id v ∙ ap (λ (o : Option (List ℕ)). cond (is_some o) (len m) (len m + 1)) is

pub len_less : (m : Array) (id : ℕ) (w : List ℕ) → get m id ≡ Some w → len (remove m id) ≡ len m - 1
len_less m id w is = len-remove nat_cmp_total m id ∙ ap (λ (o : Option (List ℕ)). cond (is_some o) (len m - 1) (len m)) is

pub len_most : (m : Array) → ((q : ℕ) → IsSome (get m q) → 1 ≤ q) → len m ≤ greatest m
len_most m some = elim (cases_lt 0 (least m)) [
  | inl more ↦ omega (arith, more, few (entries m) (entries_sorted m), len-entries m)
  | inr none ↦ omega (arith, ap (λ (k : Array). len k) (nothing none), len-empty nat_cmp (List ℕ))
]
  where
    nothing : least m ≤ 0 → m ≡ empty
    nothing none = none_held m (λ q. elim (held_or_not (get m q)) [
      | inl held ↦ absurd (omega (arith, none, some (least m) (least_some m q held)))
      | inr is ↦ is
    ])

-- ---- how many bytes

abbrev pub weight : ℕ → List ℕ → ℕ
weight id v = length (decimal id) + length v

in_two : (es : List Entry) → sum_by (λ (t : List ℕ). length t) (map (λ id. decimal id) (map (λ e. e.0) es)) + sum_by (λ e. length e.1) es ≡ total weight es
in_two [] = refl
in_two (e ∷ es) = omega (arith, in_two es, sum_by-cons (λ (t : List ℕ). length t) (decimal e.0) (map (λ id. decimal id) (map (λ (e : Entry). e.0) es)), sum_by-cons (λ (e : Entry). length e.1) e es, sum_by-cons (λ (e : Entry). weight e.0 e.1) e es)

pub bytes_are : (m : Array) → bytes_held m ≡ total weight (entries m)
bytes_are m = in_two (entries m)

pub bytes_with : (m : Array) (id : ℕ) (v : List ℕ) → bytes_held (insert m id v) + gone weight id (get m id) ≡ bytes_held m + weight id v
bytes_with m id v =
    let now : bytes_held (insert m id v) ≡ total weight (put nat_cmp id v (entries m)) = bytes_are (insert m id v) ∙ ap (total weight) (entries-insert nat_cmp_total m id v) in
    let old : gone weight id (get m id) ≡ gone weight id (find nat_cmp id (entries m)) = ap (gone weight id) (get-entries m id) in
    omega (arith, now, old, bytes_are m, total-put weight id v (entries m) (entries_sorted m))

turned : (a b : Bool) (x y : Option (List ℕ)) → a ≡ b → cond (not a) x y ≡ cond b y x
turned true b x y e = ap (λ c. cond c y x) e
turned false b x y e = ap (λ c. cond c y x) e

entries-remove : (m : Array) (k : ℕ) → entries (remove m k) ≡ where_key nat_cmp (λ x. not (eq_by_cmp nat_cmp k x)) (entries m)
entries-remove m k =
    let kept : ℕ → Bool = λ x. not (eq_by_cmp nat_cmp k x) in
    let es = entries m in
    let rising = is_sorted-where_key nat_cmp kept es (entries_sorted m) in
    let same : remove m k ≡ from_sorted (where_key nat_cmp kept es) = same_map nat_cmp_total nat_cmp-IsAntisymmetric _ _ (λ q.
    get-remove nat_cmp_total m k q
    ∙ sym (get-from_sorted nat_cmp (where_key nat_cmp kept es) q rising
    ∙ find-where_key nat_cmp kept q (λ x t. ap kept (sym (nat_cmp-IsAntisymmetric q x t))) es
    ∙ ap (λ (o : Option (List ℕ)). cond (kept q) o None) (sym (get-entries m q))
    ∙ turned (eq_by_cmp nat_cmp k q) (eq_by_cmp nat_cmp q k) (get m q) None ((eq_by_cmp_equiv nat_cmp_total).symm k q))) in
    ap entries same ∙ entries-from_sorted nat_cmp (where_key nat_cmp kept es) rising

pub bytes_without : (m : Array) (id : ℕ) → bytes_held (remove m id) + gone weight id (get m id) ≡ bytes_held m
bytes_without m id =
    let now : bytes_held (remove m id) ≡ total weight (where_key nat_cmp (λ x. not (eq_by_cmp nat_cmp id x)) (entries m)) = bytes_are (remove m id) ∙ ap (total weight) (entries-remove m id) in
    let old : gone weight id (get m id) ≡ gone weight id (find nat_cmp id (entries m)) = ap (gone weight id) (get-entries m id) in
    omega (arith, now, old, bytes_are m, total-without weight id (entries m) (entries_sorted m))

pub bytes_empty : bytes_held empty ≡ 0
bytes_empty = bytes_are empty ∙ ap (total weight) no_entries

-- ---- all that is counted fits

pub small_len : (m : Array) → IsSmall m → len m ≤ 2 ^ 40
small_len m small = elim (cases_lt 0 (greatest m)) [
  | inl more ↦ omega (arith, len_most m (λ q held. (small.ids q held).0), (small.ids (greatest m) (greatest_held m more)).1)
  | inr none ↦ omega (arith, none, len_most m (λ q held. (small.ids q held).0))
]

pub small_bytes : (m : Array) → IsSmall m → bytes_held m ≤ 2 ^ 62
small_bytes m small =
    let each : total weight (entries m) ≤ length (entries m) * 1048596 = total-most weight 1048596 (entries m) (entries_sorted m) (λ q v is.
    let found : get m q ≡ Some v = get-entries m q ∙ is in
    let id = small.ids q (ap is_some found) in
    omega (arith, small.values q v found, length-decimal-le 20 q (omega arith) (omega (arith, id.1)) (omega (arith, id.1)))) in
    omega (arith, each, bytes_are m, small_len m small, len-entries m)

pub counts_empty : Counts (record { records = 0; size = 0; least = 0; greatest = 0 }) empty
counts_empty = record { records = sym (len-empty nat_cmp (List ℕ)); size = sym bytes_empty; least = sym least_empty; greatest = sym greatest_empty }

-- ---- what an old value's length tells

pub none_long : (o : Option (List ℕ)) → None ≡ option_map length o → o ≡ None
none_long None e = refl
none_long (Some v) e = absurd (let n : None ≡ Some (length v) = e in cc)

pub some_long : (n : ℕ) (o : Option (List ℕ)) → Some n ≡ option_map length o → (w : List ℕ) × (o ≡ Some w) × (n ≡ length w)
some_long n None e = absurd (let s : Some n ≡ None = e in cc)
some_long n (Some v) e = (v, refl, let s : Some n ≡ Some (length v) = e in cc)

gone_some : (id : ℕ) (o : Option (List ℕ)) (w : List ℕ) → o ≡ Some w → gone weight id o ≡ length (decimal id) + length w
gone_some id o w is = ap (gone weight id) is

gone_none : (id : ℕ) (o : Option (List ℕ)) → o ≡ None → gone weight id o ≡ 0
gone_none id o is = ap (gone weight id) is

pub bytes_over : (m : Array) (id : ℕ) (v w : List ℕ) → get m id ≡ Some w → bytes_held (insert m id v) + length w ≡ bytes_held m + length v
bytes_over m id v w is = omega (arith, bytes_with m id v, gone_some id (get m id) w is)

pub bytes_more : (m : Array) (id : ℕ) (v : List ℕ) → get m id ≡ None → bytes_held (insert m id v) ≡ bytes_held m + (length (decimal id) + length v)
bytes_more m id v is = omega (arith, bytes_with m id v, gone_none id (get m id) is)

pub bytes_less : (m : Array) (id : ℕ) (w : List ℕ) → get m id ≡ Some w → bytes_held (remove m id) + (length (decimal id) + length w) ≡ bytes_held m
bytes_less m id w is = omega (arith, bytes_without m id, gone_some id (get m id) w is)

-- a value is among the bytes
pub bytes_some : (m : Array) (id : ℕ) (w : List ℕ) → get m id ≡ Some w → length (decimal id) + length w ≤ bytes_held m
bytes_some m id w is = omega (arith, bytes_less m id w is)
