-- Texts with a byte between.
use Rattle.std.proofs.Common.{◌≡◌, ℕ, List, [], ◌∷◌, ◌++◌, sym, ap}
use Rattle.std.proofs.lemmas.List.{append-nil}
use Rattle.std.specs.List.{join_with_byte}

-- what stands behind the first
abbrev pub behind : List (List ℕ) → List ℕ
behind [] = []
behind (x ∷ xs) = 0 ∷ (x ++ behind xs)

pub join_is : (x : List ℕ) (xs : List (List ℕ)) → join_with_byte 0 (x ∷ xs) ≡ x ++ behind xs
join_is x [] = sym (append-nil x)
join_is x (y ∷ ys) = ap (λ l. x ++ 0 ∷ l) (join_is y ys)
