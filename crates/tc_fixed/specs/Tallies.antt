-- What is counted of a map from ids to values.
use Rattle.std.specs.Prelude.{◌≡◌, ℕ, ◌+◌, ◌^◌, ◌≤◌, List, length, sum_by, Option, Some, IsSome, option_map}
use Rattle.std.specs.FinMap.{entries, get, insert, len, remove}
use Rattle.tc_model.specs.Arrays.{Array, least, greatest, key_texts}
use Rattle.tc_model.specs.Stores.{bytes_of}
use Rattle.tc_fixed.specs.declared.tally.Tally.{Tally}

-- the bytes of all ids as decimal texts, and of all values
abbrev pub bytes_held : Array → ℕ
bytes_held m = bytes_of (key_texts m) + sum_by (λ e. length e.1) (entries m)

pub record Counts (t : Tally) (m : Array) : Type 0 where
  pub records : t.records ≡ len m
  pub size : t.size ≡ bytes_held m
  pub least : t.least ≡ least m
  pub greatest : t.greatest ≡ greatest m

-- so few and so short that all that is counted fits
pub record IsSmall (m : Array) : Type 0 where
  pub ids : (id : ℕ) → IsSome (get m id) → (1 ≤ id) × (id ≤ 2 ^ 40)
  pub values : (id : ℕ) (v : List ℕ) → get m id ≡ Some v → length v ≤ 1048576

-- what is counted with a value of so many bytes for an id, whose old value had so many
abbrev pub CountsWith : Tally → ℕ → Option ℕ → ℕ → Tally → Type 0
CountsWith t id old long new = (m : Array) (v : List ℕ) → Counts t m → IsSmall m → old ≡ option_map length (get m id) → long ≡ length v → IsSmall (insert m id v) → Counts new (insert m id v)

-- the bytes held with a value of so many bytes for an id, whose old value had so many
abbrev pub SizeWith : Tally → ℕ → Option ℕ → ℕ → ℕ → Type 0
SizeWith t id old long size = (m : Array) (v : List ℕ) → Counts t m → IsSmall m → old ≡ option_map length (get m id) → long ≡ length v → IsSmall (insert m id v) → size ≡ bytes_held (insert m id v)

-- what is counted without an id, whose value had so many bytes, where these are the least and the greatest of the others
abbrev pub CountsWithout : Tally → ℕ → ℕ → ℕ → ℕ → Tally → Type 0
CountsWithout t id long low high new = (m : Array) (v : List ℕ) → Counts t m → IsSmall m → get m id ≡ Some v → long ≡ length v → low ≡ least (remove m id) → high ≡ greatest (remove m id) → Counts new (remove m id)
