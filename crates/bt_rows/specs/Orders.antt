-- A strict order of keys.
use Rattle.std.specs.Prelude.{◌≡◌, ℕ, List, Bool, true, false}
use Rattle.std.specs.declared.cmp.Ordering.{Ordering}
use Rattle.std.specs.Ordering.{is_lt}

abbrev pub Before : Type 0
Before = List ℕ → List ℕ → Bool

abbrev pub before_by : (List ℕ → List ℕ → Ordering) → Before
before_by cmp x y = is_lt (cmp x y)

pub record IsOrder (before : Before) : Type 0 where
  pub strict : (x : List ℕ) → before x x ≡ false
  pub trans : (x y z : List ℕ) → before x y ≡ true → before y z ≡ true → before x z ≡ true
  pub total : (x y : List ℕ) → before x y ≡ false → before y x ≡ false → x ≡ y
