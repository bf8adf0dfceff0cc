-- What the front of a cell tells.
use Rattle.std.specs.Prelude.{◌≡◌, ℕ, List, length, take, Option, Some, None, option_map}
use Rattle.tc_base.specs.Endian.{field}
use Rattle.tc_fixed.specs.declared.cells.Look.{Look}
use Rattle.tc_fixed.specs.declared.cells.Look.TheVariants.{Absent, Value, Bad}
use Rattle.tc_fixed.specs.Cells.{IsCell, size_in, size_len}

-- that it has no value, one of so many bytes, or that it is no cell
abbrev pub Sees : ℕ → Look → List ℕ → Type 0
Sees width Absent c = IsCell width None c
Sees width (Value long) c = (long ≡ size_in width c) × IsCell width (Some (field (size_len width) long c)) c
Sees width Bad c = (o : Option (List ℕ)) → IsCell width o c → ⊥

-- the value of an id, or none, was read to the front of bytes, and it has so many
pub record IsReadAs (o : Option (List ℕ)) (found : Option ℕ) (bytes : List ℕ) : Type 0 where
  pub long : found ≡ option_map length o
  pub value : option_map (λ n. take n bytes) found ≡ o
