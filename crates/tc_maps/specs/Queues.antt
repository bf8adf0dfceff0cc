-- The values that wait behind the first.
use Rattle.std.specs.Prelude.{ℕ, List, [], Option, Some, None}
use Rattle.std.specs.Global.{Box, Global}
use Rattle.std.specs.declared.collections.VecDeque.{VecDeque}

abbrev pub behind : Option (Box (VecDeque (List ℕ) Global)) → List (List ℕ)
behind None = []
behind (Some b) = b.value.items
