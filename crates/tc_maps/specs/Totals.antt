-- The number of pairs, and the bytes of their keys and values.
use Rattle.std.specs.Prelude.{◌≡◌, ℕ, ◌+◌, List, length, sum_by, Option, Some, None}
use Rattle.tc_base.specs.declared.seq.Pair.{Pair}
use Rattle.tc_maps.specs.declared.totals.Totals.{Totals}

-- the bytes of all keys and values
abbrev pub sizes : List Pair → ℕ
sizes ps = sum_by (λ p. length p.key + length p.value) ps

pub record AreTotals (t : Totals) (ps : List Pair) : Type 0 where
  pub pairs : t.pairs ≡ length ps
  pub bytes : t.bytes ≡ sizes ps

-- what goes with a value of so many bytes, where there is one
abbrev pub pairs_gone : Option ℕ → ℕ
pairs_gone None = 0
pairs_gone (Some value) = 1

abbrev pub bytes_gone : ℕ → Option ℕ → ℕ
bytes_gone key None = 0
bytes_gone key (Some value) = key + value
