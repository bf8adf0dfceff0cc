-- The keys whose number is from one to another.
use Rattle.std.specs.Prelude.{ℕ, ℤ, List, ◌≤ℤ◌, int_lt}
use Rattle.tc_base.specs.Orders.{key_number}
use Rattle.tc_base.specs.declared.order.Side.{Side}
use Rattle.bt_order.specs.Sides.{side}

abbrev pub side_numbered : ℤ → ℤ → List ℕ → Side
side_numbered low high key = side (int_lt (key_number key) low) (int_lt high (key_number key))

-- both ends included
abbrev pub IsNumbered : ℤ → ℤ → List ℕ → Type 0
IsNumbered low high key = (low ≤ℤ key_number key) × (key_number key ≤ℤ high)
