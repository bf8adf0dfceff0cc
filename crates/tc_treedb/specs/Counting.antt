-- The bytes of all keys and values, as they change.
use Rattle.std.specs.Prelude.{◌≡◌, ℕ, ◌+◌, Option, Some, None}

-- the bytes of a key and a value that it had, if it had one
abbrev pub gone : ℕ → Option ℕ → ℕ
gone key None = 0
gone key (Some value) = key + value

-- of so many bytes with a key of so many and a value in the place of an old one
abbrev pub IsCountedWith : ℕ → Option ℕ → Option ℕ → ℕ → ℕ → Type 0
IsCountedWith key old total value n = (t : ℕ) × (total ≡ Some t) × (n + gone key old ≡ t + (key + value))

-- without them
abbrev pub IsCountedWithout : ℕ → Option ℕ → Option ℕ → ℕ → Type 0
IsCountedWithout key old total n = (t : ℕ) × (total ≡ Some t) × (n + gone key old ≡ t)
