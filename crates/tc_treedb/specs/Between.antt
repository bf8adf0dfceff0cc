-- Lists of pairs on the way from one to another.
use Rattle.std.specs.Prelude.{◌≡◌, ◌⊎◌, ℕ, List, ◌++◌}
use Rattle.tc_base.specs.Lists.{values}
use Rattle.tc_base.specs.declared.seq.Pair.{Pair}

abbrev pub IsFront : List (List ℕ) → List (List ℕ) → Type 0
IsFront vs ws = (more : List (List ℕ)) × (ws ≡ vs ++ more)

-- the values of a key as before, as after, or more than before and not yet as many as after
abbrev pub AreBetween : List (List ℕ) → List (List ℕ) → List (List ℕ) → Type 0
AreBetween before vs after = (vs ≡ before) ⊎ ((vs ≡ after) ⊎ (IsFront before vs × IsFront vs after))

-- each key has such values
abbrev pub IsBetween : List Pair → List Pair → List Pair → Type 0
IsBetween before mid after = (key : List ℕ) → AreBetween (values before key) (values mid key) (values after key)
