-- The keys from one on, and before another.
use Rattle.std.specs.Prelude.{◌≡◌, ℕ, Bool, true, false, List, Option, Some, None, IfSome}
use Rattle.std.specs.Ordering.{is_lt, is_ge}
use Rattle.std.specs.declared.cmp.Ordering.{Ordering}
use Rattle.std.specs.declared.cmp.Ordering.TheVariants.{Less}
use Rattle.tc_base.specs.declared.order.Side.{Side}
use Rattle.bt_order.specs.Sides.{side}

module _ (cmp : List ℕ → List ℕ → Ordering) where
  -- not before an end, if there is one
  abbrev pub is_past : Option (List ℕ) → List ℕ → Bool
  is_past None key = false
  is_past (Some end) key = is_ge (cmp key end)

  abbrev pub side_in : List ℕ → Option (List ℕ) → List ℕ → Side
  side_in first end key = side (is_lt (cmp key first)) (is_past end key)

  -- from the first on, and before the end, if there is one
  abbrev pub IsWithin : List ℕ → Option (List ℕ) → List ℕ → Type 0
  IsWithin first end key = (is_ge (cmp key first) ≡ true) × IfSome end (λ e. cmp key e ≡ Less)
