-- Keys that were left behind.
use Rattle.std.proofs.Common.{◌≡◌, ◌∙◌, ◌-◌, ℕ, List, ◌++◌, length, take, drop, sym, ap}
use Rattle.std.proofs.lemmas.List.{length-drop}
use Rattle.std.proofs.Math.Seq.{take-append_seam}

-- of items whose front came behind the others, those that then stand in front
pub behind_front : {A : Type 0} (xs : List A) (n : ℕ) → take (length xs - n) (drop n xs ++ take n xs) ≡ drop n xs
behind_front xs n = ap (λ (k : ℕ). take k (drop n xs ++ take n xs)) (sym (length-drop n xs)) ∙ take-append_seam (drop n xs) (take n xs)
