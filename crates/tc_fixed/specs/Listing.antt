-- Ids of a range.
use Rattle.std.specs.Prelude.{ℕ, ◌<◌, List, [], ◌∷◌, ◌&&◌, filter, take, nat_le, nat_lt, Option, Some, None}
use Rattle.std.specs.FinMap.{keys}
use Rattle.tc_model.specs.Arrays.{Array}
use Rattle.tc_fixed.specs.declared.cells.Look.{Look}
use Rattle.tc_fixed.specs.declared.cells.Look.TheVariants.{Absent, Value, Bad}

-- the ids held from one on and before another, in order
abbrev pub ids_in : Array → ℕ → ℕ → List ℕ
ids_in m from to = filter (λ id. nat_le from id && nat_lt id to) (keys m)

-- at most so many, all where no number is given
abbrev pub first_of : {A : Type 0} → Option ℕ → List A → List A
first_of None xs = xs
first_of (Some n) xs = take n xs

-- fewer are listed
abbrev pub HasRoom : Option ℕ → ℕ → Type 0
HasRoom None count = Unit {0}
HasRoom (Some most) count = count < most

-- an id whose cell has a value
abbrev pub noted : Look → ℕ → List ℕ
noted (Value long) id = id ∷ []
noted Absent id = []
noted Bad id = []
