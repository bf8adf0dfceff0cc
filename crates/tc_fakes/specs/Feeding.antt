-- Reads added to a script.
use Rattle.std.specs.Prelude.{◌≡◌, ◌≤◌, ℕ, List, ◌++◌, length, map, All}
use Rattle.std.specs.List.{flat_map}
use Rattle.tc_io.specs.declared.act.Act.{Act}
use Rattle.tc_io.specs.declared.act.Act.TheVariants.{Read}

-- bytes in pieces, none of them empty or longer than that
pub record ArePieces (bytes : List ℕ) (piece : ℕ) (parts : List (List ℕ)) : Type 0 where
  pub whole : bytes ≡ flat_map (λ p. p) parts
  pub sizes : All (λ p. (1 ≤ length p) × (length p ≤ piece)) parts

-- reads of these bytes came behind
abbrev pub AddsReads : List Act → List Act → ℕ → List ℕ → ℕ → Type 0
AddsReads before now conn bytes piece = (parts : List (List ℕ)) × ArePieces bytes piece parts × (now ≡ before ++ map (Read conn) parts)
