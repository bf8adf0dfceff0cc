-- Keys that rise, each with its values: the pairs that they make.
use Rattle.std.specs.Prelude.{ℕ, List, [], ◌∷◌, map, flat_map, Option, Some, None}
use Rattle.std.specs.BTreeMap.{BTreeMap}
use Rattle.std.specs.List.Sorted.{IsStrictlySortedBy}
use Rattle.tc_base.specs.Orders.{lexical}
use Rattle.tc_base.specs.declared.seq.Pair.{Pair}
use Rattle.tc_base.specs.Lists.{pair}

-- the first value of a key, and those behind it
abbrev pub Held : Type 0
Held = List ℕ × List (List ℕ)

abbrev pub all_of : Held → List (List ℕ)
all_of vs = vs.0 ∷ vs.1

abbrev pub values_at : Option Held → List (List ℕ)
values_at None = []
values_at (Some vs) = all_of vs

abbrev pub pairs_at : List ℕ × Held → List Pair
pairs_at e = map (pair e.0) (all_of e.1)

-- the pairs of all entries, in their order
abbrev pub pairs_of : List (List ℕ × Held) → List Pair
pairs_of es = flat_map pairs_at es

-- no key stands behind a greater one, or twice
abbrev pub AreRising : List (List ℕ) → Type 0
AreRising keys = IsStrictlySortedBy lexical keys

abbrev pub seen : BTreeMap (List ℕ) Held → List Pair
seen m = pairs_of m.entries
