-- Lines of an inspection.
use Rattle.std.specs.Prelude.{ℕ, List, [], ◌++◌, ◌∷◌}
use Rattle.std.specs.Fmt.{decimal}

-- a name and a number, and the end of the line
abbrev pub line : List ℕ → ℕ → List ℕ
line name n = name ++ (decimal n ++ 10 ∷ [])
