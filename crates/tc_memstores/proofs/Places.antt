-- The values from a place on.
use Rattle.std.proofs.Common.{◌≡◌, ℕ, zero, suc, ◌+◌, List, [], ◌∷◌, drop, ap, ◌∙◌, arith}
use Rattle.std.specs.Prelude.{Some, slice_get}

drop_at : (xs : List (List ℕ)) (i : ℕ) (x : List ℕ) → slice_get xs i ≡ Some x → drop i xs ≡ x ∷ drop (suc i) xs
drop_at [] zero x is = absurd cc
drop_at [] (suc i) x is = absurd cc
drop_at (y ∷ xs) zero x is = let same : y ≡ x = cc in ap (λ (l : List ℕ). l ∷ xs) same
drop_at (y ∷ xs) (suc i) x is = drop_at xs i x is

pub drop_there : (xs : List (List ℕ)) (i : ℕ) (x : List ℕ) → slice_get xs i ≡ Some x → drop i xs ≡ x ∷ drop (i + 1) xs
drop_there xs i x is = let next : suc i ≡ i + 1 = omega arith in drop_at xs i x is ∙ ap (λ k. x ∷ drop k xs) next
