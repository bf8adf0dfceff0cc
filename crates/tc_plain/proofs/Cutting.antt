-- Cutting a text, part by part.
use Rattle.std.proofs.Common.{◌≡◌, ℕ, ◌<◌, ◌+◌, Bool, true, false, cond, not, List, [], ◌∷◌, ◌++◌, length, take, drop, refl, sym, ap, ◌∙◌, arith, append_assoc}
use Rattle.std.specs.List.{slice_split, position_or_len, onto_first}
use Rattle.std.proofs.lemmas.List.Splits.{slice_split_first, slice_split-cons_no}

pub cut_step : (p : ℕ → Bool) (xs : List ℕ) (found new all : List (List ℕ)) (i : ℕ) → i ≡ position_or_len p xs → i < length xs → found ++ slice_split p xs ≡ all → new ≡ found ++ take i xs ∷ []
    → new ++ slice_split p (drop (i + 1) xs) ≡ all
cut_step p xs found new all i is within so e =
    let first : slice_split p xs ≡ take i xs ∷ slice_split p (drop (i + 1) xs) = slice_split_first p xs 0 (omega (arith, is, within)) ∙ ap (λ (n : ℕ). take n xs ∷ slice_split p (drop (n + 1) xs)) (sym is) in
    ap (λ l. l ++ slice_split p (drop (i + 1) xs)) e ∙ append_assoc found (take i xs ∷ []) (slice_split p (drop (i + 1) xs)) ∙ ap (λ l. found ++ l) (sym first) ∙ so

whole : (p : ℕ → Bool) (xs : List ℕ) → position_or_len p xs ≡ length xs → slice_split p xs ≡ xs ∷ []
whole p [] e = refl
whole p (x ∷ xs) e = go (p x) refl (whole p xs) e
  where
    go : (b : Bool) → p x ≡ b → (position_or_len p xs ≡ length xs → slice_split p xs ≡ xs ∷ []) → cond (not b) (1 + position_or_len p xs) 0 ≡ length (x ∷ xs) → slice_split p (x ∷ xs) ≡ (x ∷ xs) ∷ []
    go true f rest h = absurd (omega (arith, h))
    go false f rest h = slice_split-cons_no p x xs f ∙ ap (onto_first x) (rest (omega (arith, h)))

pub cut_end : (p : ℕ → Bool) (xs : List ℕ) (found new all : List (List ℕ)) → position_or_len p xs ≡ length xs → found ++ slice_split p xs ≡ all → new ≡ found ++ xs ∷ [] → new ≡ all
cut_end p xs found new all e so is = is ∙ ap (λ l. found ++ l) (sym (whole p xs e)) ∙ so
