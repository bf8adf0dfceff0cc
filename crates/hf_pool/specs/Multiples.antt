-- What is true of all free blocks of a pool.
use Rattle.std.specs.Prelude.{◌≡◌, ℕ, ◌+◌, ◌%◌, ◌^◌, ◌<◌, ◌≤◌}
use Rattle.hf_layout.specs.Frees.{Frees, IsThere}

-- places and sizes are multiples of it
abbrev pub AreMultiples : ℕ → Frees → Type 0
AreMultiples unit frees = (q t : ℕ) → IsThere frees q t → (q % unit ≡ 0) × (t % unit ≡ 0)

-- none is empty, or of 2 ^ 32 bytes and more, and each ends at an end or before
abbrev pub LieWithin : ℕ → Frees → Type 0
LieWithin end frees = (q t : ℕ) → IsThere frees q t → (0 < t) × (t < 2 ^ 32) × (q + t ≤ end)
