-- The first and the last id of a range that are held.
use Rattle.std.specs.Prelude.{◌≡◌, ◌⊎◌, ℕ, ◌<◌, ◌≤◌, None, IsSome}
use Rattle.std.specs.FinMap.{get}
use Rattle.tc_model.specs.Arrays.{Array}

-- none from one id up to another is held
abbrev pub HasNone : Array → ℕ → ℕ → Type 0
HasNone m from to = (id : ℕ) → from ≤ id → id ≤ to → get m id ≡ None

-- this one is, and none of the range before it
pub record IsFirst (m : Array) (from to found : ℕ) : Type 0 where
  pub low : from ≤ found
  pub high : found ≤ to
  pub held : IsSome (get m found)
  pub before : (id : ℕ) → from ≤ id → id < found → get m id ≡ None

pub record IsLast (m : Array) (from to found : ℕ) : Type 0 where
  pub low : from ≤ found
  pub high : found ≤ to
  pub held : IsSome (get m found)
  pub behind : (id : ℕ) → found < id → id ≤ to → get m id ≡ None

-- 0 where there is none
abbrev pub IsFirstOrNone : Array → ℕ → ℕ → ℕ → Type 0
IsFirstOrNone m from to found = ((found ≡ 0) × HasNone m from to) ⊎ IsFirst m from to found

abbrev pub IsLastOrNone : Array → ℕ → ℕ → ℕ → Type 0
IsLastOrNone m from to found = ((found ≡ 0) × HasNone m from to) ⊎ IsLast m from to found
