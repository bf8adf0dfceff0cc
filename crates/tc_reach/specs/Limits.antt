-- Zeros, and bytes and files that grow.
use Rattle.std.specs.Prelude.{◌≡◌, ◌⊎◌, ℕ, ◌<◌, ◌≤◌, List, ◌++◌, length, replicate}

-- so many bytes pass the file's limit, or the undo log is full
abbrev pub HasNoRoom : ℕ → Type 0 → ℕ → Type 0
HasNoRoom limit log_is_full long = (limit < long) ⊎ log_is_full

-- zeros, and at least one
pub record AreZeros (bytes : List ℕ) : Type 0 where
  pub some : 1 ≤ length bytes
  pub are : bytes ≡ replicate (length bytes) 0

-- some bytes were added behind others
abbrev pub AddsSome : List ℕ → List ℕ → Type 0
AddsSome old new = (more : List ℕ) × (new ≡ old ++ more)
