-- Bytes of a file that changed.
use Rattle.std.specs.Prelude.{◌≡◌, ◌⊎◌, ℕ, ◌<◌, ◌≤◌, List, [], length, take, drop}
use Rattle.tc_base.specs.Files.{wrote}

-- two files that differ between two places alone
pub record SameOutside (from until : ℕ) (old new : List ℕ) : Type 0 where
  pub before : take from new ≡ take from old
  pub behind : drop until new ≡ drop until old

-- no bytes are left, or these stand over those that were there, or right behind them
abbrev pub PutsOver : ℕ → List ℕ → List ℕ → List ℕ → Type 0
PutsOver at bytes old new = (new ≡ []) ⊎ ((0 < length old) × (at ≤ length old) × (new ≡ wrote at bytes old))
