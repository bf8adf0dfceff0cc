-- Those of some texts that pass a test, at most so many.
use Rattle.std.proofs.Common.{◌≡◌, ◌∙◌, ℕ, zero, suc, ◌≤◌, ◌<◌, Bool, true, false, cond, List, [], ◌∷◌, ◌++◌, filter, length, map, take, drop, refl, sym, ap, inl, inr, arith}
use Rattle.std.specs.Prelude.{Option, Some, None, IsTrue, ◌↔◌}
use Rattle.std.proofs.lemmas.Bool.{cases_lt}
use Rattle.tc_engine.specs.Changes.{first_of}
use Rattle.tc_hashdb.specs.Listing.{HasRoom}

-- not more than may be
abbrev pub Fits : Option ℕ → ℕ → Type 0
Fits None n = Unit {0}
Fits (Some most) n = n ≤ most

filter_parts : {A : Type 0} (p : A → Bool) (i : ℕ) (xs : List A) → filter p xs ≡ filter p (take i xs) ++ filter p (drop i xs)
filter_parts p zero xs = refl
filter_parts p (suc i) [] = refl
filter_parts p (suc i) (x ∷ xs) = elim (p x) as (λ b. cond b (x ∷ filter p xs) (filter p xs) ≡ cond b (x ∷ filter p (take i xs)) (filter p (take i xs)) ++ filter p (drop i xs)) [
  | true ↦ ap (λ l. x ∷ l) (filter_parts p i xs)
  | false ↦ filter_parts p i xs
]

as_it_is : {A : Type 0} (xs : List A) → map (λ x. x) xs ≡ xs
as_it_is [] = refl
as_it_is (x ∷ xs) = ap (λ l. x ∷ l) (as_it_is xs)

front_is : {A : Type 0} (n : ℕ) (xs ys : List A) → length xs ≡ n → take n (xs ++ ys) ≡ xs
front_is zero [] ys e = refl
front_is zero (x ∷ xs) ys e = absurd (omega (arith, e))
front_is (suc n) [] ys e = absurd (omega (arith, e))
front_is (suc n) (x ∷ xs) ys e = ap (λ l. x ∷ l) (front_is n xs ys (omega (arith, e)))

-- as many as may be are found
pub stops : {A : Type 0} (p : A → Bool) (all front : List A) (most : Option ℕ) (found : List A) (n : ℕ) (b : Bool) → map (λ x. x) front ≡ take (length front) all → found ≡ filter p front → Fits most (length found) → n ≡ length found → (IsTrue b ↔ HasRoom most n) → b ≡ false → found ≡ first_of most (filter p all)
stops p all front None found n b parts is fits count room no_more = let yes : IsTrue b = room.1 tt in absurd (let never = yes in cc)
stops p all front (Some k) found n b parts is fits count room no_more =
    let less : n < k → ⊥ = λ lt. let yes : IsTrue b = room.1 lt in let never = yes in absurd cc in
    let full : length found ≡ k = elim (cases_lt n k) [ inl lt ↦ absurd (less lt) | inr le ↦ omega (arith, le, count, fits) ] in
    let here : found ≡ filter p (take (length front) all) = is ∙ ap (filter p) (sym (as_it_is front) ∙ parts) in
    sym (ap (take k) (filter_parts p (length front) all ∙ ap (λ l. l ++ filter p (drop (length front) all)) (sym here)) ∙ front_is k found (filter p (drop (length front) all)) full)

whole : {A : Type 0} (n : ℕ) (xs : List A) → length xs ≤ n → take n xs ≡ xs
whole zero [] le = refl
whole zero (x ∷ xs) le = absurd (omega (arith, le))
whole (suc n) [] le = refl
whole (suc n) (x ∷ xs) le = ap (λ l. x ∷ l) (whole n xs (omega (arith, le)))

-- all are found
pub all_found : {A : Type 0} (p : A → Bool) (all front : List A) (most : Option ℕ) (found : List A) → map (λ x. x) front ≡ all → found ≡ filter p front → Fits most (length found) → found ≡ first_of most (filter p all)
all_found p all front None found every is fits = is ∙ ap (filter p) (sym (as_it_is front) ∙ every)
all_found p all front (Some k) found every is fits = sym (ap (take k) (sym (is ∙ ap (filter p) (sym (as_it_is front) ∙ every))) ∙ whole k found fits)
