-- The parts of an argument, one after the other.
use Rattle.std.proofs.Common.{◌≡◌, ◌∙◌, ℕ, ◌+◌, ◌≤◌, List, [], ◌∷◌, length, refl, ap, arith}
use Rattle.std.specs.Prelude.{Option, Some, None, ◌==◌}
use Rattle.std.proofs.lemmas.List.Splits.{length-slice_split}
use Rattle.tc_model.specs.Texts.{parts}
use Rattle.tc_model.specs.Queries.{term_of, Term}

some_part : (text : List ℕ) → 1 ≤ length (parts text)
some_part text = omega (arith, length-slice_split (λ b. b == 0) text)

-- five parts say nothing
five : (w a b c : List ℕ) (ps : List (List ℕ)) → 1 ≤ length ps → term_of (w ∷ a ∷ b ∷ c ∷ ps) ≡ None
five w a b c [] some = absurd (omega (arith, some))
five w a b c (p ∷ ps) some = refl

pub too_many : (w a b c text : List ℕ) (ps : List (List ℕ)) → ps ≡ c ∷ parts text → term_of (w ∷ a ∷ b ∷ ps) ≡ None
too_many w a b c text ps e = ap (λ (l : List (List ℕ)). term_of (w ∷ a ∷ b ∷ l)) e ∙ five w a b c (parts text) (some_part text)
