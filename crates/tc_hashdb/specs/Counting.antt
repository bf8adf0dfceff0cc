-- The bytes of all keys and values, as they change.
use Rattle.std.specs.Prelude.{◌≡◌, ℕ, ◌+◌, Option, Some}
use Rattle.tc_maps.specs.Sizes.{size_gone}

-- of so many bytes with a key of so many and a value in the place of an old one
abbrev pub IsCountedWith : ℕ → Option ℕ → Option ℕ → Option ℕ → ℕ → Type 0
IsCountedWith key old total value n = (t : ℕ) × (v : ℕ) × (total ≡ Some t) × (value ≡ Some v) × (n + size_gone key old ≡ t + (key + v))

-- without them
abbrev pub IsCountedWithout : ℕ → Option ℕ → Option ℕ → ℕ → Type 0
IsCountedWithout key old total n = (t : ℕ) × (total ≡ Some t) × (n + size_gone key old ≡ t)
