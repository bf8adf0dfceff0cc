-- Maps whose keys are byte strings, in the order of bytes.
use Rattle.std.specs.Prelude.{ℕ, List}
use Rattle.std.specs.Ordering.{nat_cmp}
use Rattle.std.specs.Cmp.Lexicographic.{slice_cmp}
use Rattle.std.specs.FinMap.{FinMap}

-- to values of a type
abbrev pub Over : Type 0 → Type 0
Over X = FinMap (slice_cmp nat_cmp) X

-- to byte strings
abbrev pub Map : Type 0
Map = Over (List ℕ)
