-- Fronts of a text of bytes.
use Rattle.std.specs.Prelude.{◌≡◌, ◌<◌, ℕ, List, ◌++◌, length}

abbrev pub IsPrefix : List ℕ → List ℕ → Type 0
IsPrefix xs ys = (rest : List ℕ) × (ys ≡ xs ++ rest)

-- a front that isn't the whole
abbrev pub IsPart : List ℕ → List ℕ → Type 0
IsPart xs ys = (rest : List ℕ) × (0 < length rest) × (ys ≡ xs ++ rest)
