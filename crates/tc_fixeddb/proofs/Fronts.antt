-- Decimal texts at the front of decimal texts: the ids that begin with the text of n are those from n·10^k on and before (n + 1)·10^k.
use Rattle.std.proofs.Common.{◌≡◌, ◌∙◌, ◌⊎◌, ℕ, zero, suc, ◌+◌, ◌*◌, ◌/◌, ◌%◌, ◌^◌, ◌≤◌, ◌<◌, true, false, List, [], ◌∷◌, ◌++◌, length, drop, refl, sym, ap, inl, inr, arith, append_assoc, length-append}
use Rattle.std.specs.Prelude.{nat_eq}
use Rattle.std.specs.Fmt.{decimal}
use Rattle.std.specs.List.{starts_with}
use Rattle.std.proofs.lemmas.Bool.{cases_lt, false_from_ne_true}
use Rattle.std.proofs.lemmas.Bool.Decides.{Decides-eqb}
use Rattle.std.proofs.lemmas.Fmt.{decimal_digit, decimal_step, decimal_nonempty, decimal_injective}
use Rattle.std.proofs.lemmas.List.{append-nil}
use Rattle.std.proofs.lemmas.Slice.Eq.{starts_is}

pub record IsFront (p xs : List ℕ) : Type 0 where
  pub rest : List ℕ
  pub is : xs ≡ p ++ rest

none_behind : (p rest : List ℕ) → [] ≡ p ++ rest → rest ≡ []
none_behind [] rest e = sym e
none_behind (y ∷ p) rest e = absurd (omega (arith, ap length e))

-- at the front of a list with one item behind
last_off : (p xs : List ℕ) (d : ℕ) (rest : List ℕ) → xs ++ (d ∷ []) ≡ p ++ rest → (rest ≡ []) ⊎ IsFront p xs
last_off [] xs d rest e = inr (record { rest = xs; is = refl })
last_off (y ∷ p) [] d rest e = inl (none_behind p rest (ap (drop 1) e))
last_off (y ∷ p) (x ∷ xs) d rest e =
    let head : x ≡ y = cc in
    elim (last_off p xs d rest (ap (drop 1) e)) [
      | inl none ↦ inl none
      | inr front ↦ inr (record { rest = front.rest; is = λ i. head i ∷ front.is i })
    ]

-- a text at the front of an id's is all of it, or at the front of that without its last digit
front_step : (p : List ℕ) (id : ℕ) → 0 < length p → id < 2 ^ 64 → IsFront p (decimal id) → (p ≡ decimal id) ⊎ ((10 ≤ id) × IsFront p (decimal (id / 10)))
front_step p id some small front = elim (cases_lt id 10) [
  | inl one ↦ elim (last_off p [] (48 + id) front.rest (sym (decimal_digit id one) ∙ front.is)) [
    | inl none ↦ inl (all none)
    | inr nothing ↦ absurd (omega (arith, some, ap length nothing.is, length-append p nothing.rest))
  ]
  | inr more ↦ elim (last_off p (decimal (id / 10)) (48 + id % 10) front.rest (sym (decimal_step id more small) ∙ front.is)) [
    | inl none ↦ inl (all none)
    | inr shorter ↦ inr (more, shorter)
  ]
]
  where
    all : front.rest ≡ [] → p ≡ decimal id
    all none = sym (front.is ∙ ap (λ l. p ++ l) none ∙ append-nil p)

front_is_below : (most : ℕ) (p : List ℕ) (id : ℕ) → id < most → 1 ≤ id → id < 2 ^ 64 → 0 < length p → IsFront p (decimal id) → (j : ℕ) × (p ≡ decimal j) × (1 ≤ j) × (j ≤ id)
front_is_below zero p id less one small some front = absurd (omega (arith, less))
front_is_below (suc most) p id less one small some front = elim (front_step p id some small front) [
  | inl same ↦ (id, same, one, omega arith)
  | inr shorter ↦
      let found = front_is_below most p (id / 10) (omega (arith, less, one)) (omega (arith, shorter.0)) (omega (arith, small)) some shorter.1 in
      (found.0, found.1, found.2, omega (arith, found.3))
]

-- a text at the front of an id's is one of a number
pub front_is : (p : List ℕ) (id : ℕ) → 1 ≤ id → id < 2 ^ 64 → 0 < length p → IsFront p (decimal id) → (j : ℕ) × (p ≡ decimal j) × (1 ≤ j) × (j ≤ id)
front_is p id one small some front = front_is_below (suc id) p id (omega arith) one small some front

-- the number with so many zeros behind
abbrev pub tens : ℕ → ℕ → ℕ
tens n zero = n
tens n (suc k) = tens n k * 10

tens_least : (n k : ℕ) → n ≤ tens n k
tens_least n zero = omega arith
tens_least n (suc k) = omega (arith, tens_least n k)

tens_most : (n k : ℕ) → 1 ≤ n → tens (n + 1) k ≤ tens n k + tens n k
tens_most n zero one = omega (arith, one)
tens_most n (suc k) one = omega (arith, tens_most n k one)

tens_rise : (n k : ℕ) → tens n k ≤ tens (n + 1) k
tens_rise n zero = omega arith
tens_rise n (suc k) = omega (arith, tens_rise n k)

not_less : (most n id : ℕ) → id < most → id < n → n < 2 ^ 64 → IsFront (decimal n) (decimal id) → ⊥
not_less zero n id less low small front = omega (arith, less)
not_less (suc most) n id less low small front = elim (front_step (decimal n) id (decimal_nonempty n small) (omega (arith, low, small)) front) [
  | inl same ↦ omega (arith, low, decimal_injective n id small (omega (arith, low, small)) same)
  | inr next ↦ not_less most n (id / 10) (omega (arith, less, next.0)) (omega (arith, low)) small next.1
]

inside : (k n id : ℕ) → 1 ≤ n → tens n k ≤ id → id < tens (n + 1) k → id < 2 ^ 64 → IsFront (decimal n) (decimal id)
inside zero n id one low high small = let same : id ≡ n = omega (arith, low, high) in record { rest = []; is = ap decimal same ∙ sym (append-nil (decimal n)) }
inside (suc k) n id one low high small =
    let front = inside k n (id / 10) one (omega (arith, low)) (omega (arith, high)) (omega (arith, small)) in
    let more : 10 ≤ id = omega (arith, low, one, tens_least n k) in
    let last : List ℕ = (48 + id % 10) ∷ [] in
    record { rest = front.rest ++ last; is = decimal_step id more small ∙ (ap (λ (l : List ℕ). l ++ last) front.is ∙ append_assoc (decimal n) front.rest last) }

between : (k n id : ℕ) → 1 ≤ n → tens (n + 1) k ≤ id → id < tens n k * 10 → id < 2 ^ 64 → IsFront (decimal n) (decimal id) → ⊥
between zero n id one low high small front = elim (front_step (decimal n) id (decimal_nonempty n (omega (arith, low, small))) small front) [
  | inl same ↦ omega (arith, low, decimal_injective n id (omega (arith, low, small)) small same)
  | inr next ↦ not_less (suc (id / 10)) n (id / 10) (omega arith) (omega (arith, high)) (omega (arith, low, small)) next.1
]
between (suc k) n id one low high small front =
    let least : n + 1 ≤ tens (n + 1) k = tens_least (n + 1) k in
    elim (front_step (decimal n) id (decimal_nonempty n (omega (arith, least, low, small))) small front) [
      | inl same ↦ omega (arith, low, least, decimal_injective n id (omega (arith, least, low, small)) small same)
      | inr next ↦ between k n (id / 10) one (omega (arith, low)) (omega (arith, high)) (omega (arith, small)) next.1
    ]

-- ---- as a test

pub begins_if : (xs p : List ℕ) → IsFront p xs → starts_with nat_eq xs p ≡ true
begins_if xs p front = (starts_is Decides-eqb xs p (starts_with nat_eq xs p) refl).1 front.rest front.is

pub front_if : (xs p : List ℕ) → starts_with nat_eq xs p ≡ true → IsFront p xs
front_if xs p test = record { rest = drop (length p) xs; is = (starts_is Decides-eqb xs p (starts_with nat_eq xs p) refl).0 test }

pub begins_not : (xs p : List ℕ) → (IsFront p xs → ⊥) → starts_with nat_eq xs p ≡ false
begins_not xs p never = false_from_ne_true (starts_with nat_eq xs p) (λ test. never (front_if xs p test))

-- ---- ranges

-- ids from one on and before another have the text of n at the front, with so many digits behind
pub record IsRange (n from to : ℕ) : Type 0 where
  pub times : ℕ
  pub is_from : from ≡ tens n times
  pub is_to : to ≡ tens (n + 1) times

pub range_first : (n : ℕ) → IsRange n n (n + 1)
range_first n = record { times = 0; is_from = refl; is_to = refl }

pub range_next : (n from to : ℕ) → IsRange n from to → IsRange n (from * 10) (to * 10)
range_next n from to range = record { times = suc range.times; is_from = ap (λ k. k * 10) range.is_from; is_to = ap (λ k. k * 10) range.is_to }

pub record IsWide (from to : ℕ) : Type 0 where
  pub some : 1 ≤ from
  pub rises : from ≤ to
  pub most : to ≤ from + from

pub range_wide : (n from to : ℕ) → 1 ≤ n → IsRange n from to → IsWide from to
range_wide n from to one range = record {
  some = omega (arith, one, range.is_from, tens_least n range.times);
  rises = omega (arith, range.is_from, range.is_to, tens_rise n range.times);
  most = omega (arith, range.is_from, range.is_to, tens_most n range.times one);
}

module _ (n : ℕ) (one : 1 ≤ n) (id : ℕ) (small : id < 2 ^ 64) where
  pub in_range : (from to : ℕ) → IsRange n from to → from ≤ id → id < to → starts_with nat_eq (decimal id) (decimal n) ≡ true
  in_range from to range low high = begins_if (decimal id) (decimal n) (inside range.times n id one (omega (arith, low, range.is_from)) (omega (arith, high, range.is_to)) small)

  pub past_range : (from to : ℕ) → IsRange n from to → to ≤ id → id < from * 10 → starts_with nat_eq (decimal id) (decimal n) ≡ false
  past_range from to range low high = begins_not (decimal id) (decimal n) (between range.times n id one (omega (arith, low, range.is_to)) (omega (arith, high, range.is_from)) small)

  pub below_range : n < 2 ^ 64 → id < n → starts_with nat_eq (decimal id) (decimal n) ≡ false
  below_range least low = begins_not (decimal id) (decimal n) (not_less (suc id) n id (omega arith) low least)
