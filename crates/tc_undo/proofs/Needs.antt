-- What the log needs, entry by entry.
use Rattle.std.proofs.Common.{◌≡◌, ⊎_elim, ℕ, zero, suc, ◌+◌, ◌-◌, ◌^◌, ◌<◌, ◌≤◌, min, max, List, [], ◌∷◌, length, get_or, set, true, nat_le, arith, refl, sym, ◌∙◌, subst}
use Rattle.std.proofs.lemmas.Bool.{cases_lt, cases_eq, and_from, and_parts}
use Rattle.std.proofs.lemmas.Bool.Decides.{nat_tests}
use Rattle.std.proofs.lemmas.List.{get_or-set_same, get_or-set_other}
use Rattle.ud_log.specs.Undo.{all_short, is_data, place_of, length_of}
use Rattle.tc_undo.specs.Room.{needs}

pub needs_step : (left n : ℕ) → n ≡ min left 4096 → 0 < left → 20 + n + needs (left - n) ≤ needs left
needs_step left n is some = ⊎_elim (λ low. omega (arith, low, is, some)) (λ high. omega (arith, high, is, some)) (cases_lt left 4097)

le_true : (a b : ℕ) → a ≤ b → nat_le a b ≡ true
le_true a b le = grind (arith, nat_tests)

pub short_set : (ns : List ℕ) (k n : ℕ) → all_short ns ≡ true → n ≤ 2 ^ 40 → all_short (set ns k n) ≡ true
short_set [] k n is le = refl
short_set (m ∷ ns) zero n is le = and_from (nat_le n (2 ^ 40)) (all_short ns) (le_true n (2 ^ 40) le) (and_parts (nat_le m (2 ^ 40)) (all_short ns) is).1
short_set (m ∷ ns) (suc k) n is le = let p = and_parts (nat_le m (2 ^ 40)) (all_short ns) is in and_from (nat_le m (2 ^ 40)) (all_short (set ns k n)) p.0 (short_set ns k n p.1 le)

pub each_more : (limits lens : List ℕ) (i k n limit : ℕ) → i < length limits → n ≡ max limit (get_or lens i 0) → ((j : ℕ) → j < i → get_or limits j 0 ≡ max limit (get_or lens j 0)) → k < i + 1 → get_or (set limits i n) k 0 ≡ max limit (get_or lens k 0)
each_more limits lens i k n limit there is so_far below = ⊎_elim
    (λ before. get_or-set_other limits i k n 0 (λ same. absurd (omega (arith, same, before))) ∙ so_far k before)
    (λ past.
    let same : i ≡ k = omega (arith, past, below) in
    subst (λ j. get_or (set limits i n) j 0 ≡ max limit (get_or lens j 0)) same (get_or-set_same limits i n 0 there ∙ is))
    (cases_lt k i)

pub same_set : (lens : List ℕ) (j k m n : ℕ) → j ≡ k → m ≡ n → set lens j m ≡ set lens k n
same_set lens j k m n place number = λ i. set lens (place i) (number i)

-- ---- the limits

set_low : (lens : List ℕ) (k n : ℕ) → get_or (set lens k n) k 0 ≤ n
set_low [] zero n = omega arith
set_low [] (suc k) n = omega arith
set_low (m ∷ ns) zero n = omega arith
set_low (m ∷ ns) (suc k) n = set_low ns k n

set_inside : (lens limits : List ℕ) (j k n : ℕ) → n ≤ get_or limits k 0 → get_or lens j 0 ≤ get_or limits j 0 → get_or (set lens k n) j 0 ≤ get_or limits j 0
set_inside lens limits j k n low so_far = ⊎_elim
    (λ same. subst (λ i. get_or (set lens k n) i 0 ≤ get_or limits i 0) (sym same) (omega (arith, set_low lens k n, low)))
    (λ other. subst (λ i. i ≤ get_or limits j 0) (sym (get_or-set_other lens k j n 0 other)) so_far)
    (cases_eq j k)

module _ (lens limits new : List ℕ) (inside : (f : ℕ) → is_data f ≡ true → length_of lens f ≤ length_of limits f) (file n : ℕ) (isd : is_data file ≡ true) where
  pub grown_inside : new ≡ set lens (place_of file) (max (length_of lens file) n) → n ≤ length_of limits file → (f : ℕ) → is_data f ≡ true → length_of new f ≤ length_of limits f
  grown_inside is low f isf = subst (λ (l : List ℕ). length_of l f ≤ length_of limits f) (sym is) (set_inside lens limits (place_of f) (place_of file) (max (length_of lens file) n) (omega (arith, inside file isd, low)) (inside f isf))

  pub shorter_inside : new ≡ set lens (place_of file) (min (length_of lens file) n) → (f : ℕ) → is_data f ≡ true → length_of new f ≤ length_of limits f
  shorter_inside is f isf = subst (λ (l : List ℕ). length_of l f ≤ length_of limits f) (sym is) (set_inside lens limits (place_of f) (place_of file) (min (length_of lens file) n) (omega (arith, inside file isd)) (inside f isf))

pub limits_inside : (lens limits : List ℕ) (limit : ℕ) → ((f : ℕ) → is_data f ≡ true → length_of limits f ≡ max limit (length_of lens f)) → (f : ℕ) → is_data f ≡ true → length_of lens f ≤ length_of limits f
limits_inside lens limits limit are f isf = omega (arith, are f isf)
