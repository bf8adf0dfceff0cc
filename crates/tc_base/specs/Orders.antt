-- Orders of keys, and stretches of keys along them.
use Rattle.std.specs.Prelude.{◌≡◌, ℕ, ◌≤◌, ℤ, Bool, true, false, not, ◌==◌, List, take}
use Rattle.std.specs.List.{prefix_len}
use Rattle.std.specs.declared.cmp.Ordering.{Ordering}
use Rattle.std.specs.declared.cmp.Ordering.TheVariants.{Less}
use Rattle.std.specs.Ordering.{nat_cmp, int_cmp, on, then_cmp}
use Rattle.std.specs.Cmp.Lexicographic.{slice_cmp}
use Rattle.tc_base.specs.declared.order.Side.{Side}
use Rattle.tc_base.specs.declared.order.Side.TheVariants.{Before, Inside, After}
use Rattle.tc_base.specs.Decimal.{text_number}

-- ---- the two orders

-- by bytes, a proper prefix first
abbrev pub lexical : List ℕ → List ℕ → Ordering
lexical = slice_cmp nat_cmp

-- the part of a key before its first zero byte, the whole key if there is none
unfoldable pub value_part : List ℕ → List ℕ
value_part key = take (prefix_len (λ b. not (b == 0)) key) key

-- the number of that part
abbrev pub key_number : List ℕ → ℤ
key_number key = text_number (value_part key)

-- by the number of that part, then by bytes
abbrev pub by_number : List ℕ → List ℕ → Ordering
by_number = then_cmp (on key_number int_cmp) lexical

-- decimal or not
abbrev pub order : Bool → List ℕ → List ℕ → Ordering
order true = by_number
order false = lexical

-- ---- stretches

-- before, inside, after
abbrev pub rank : Side → ℕ
rank Before = 0
rank Inside = 1
rank After = 2

-- a greater key stands no further to the front
abbrev pub NeverFalls : (List ℕ → List ℕ → Ordering) → (List ℕ → Side) → Type 0
NeverFalls cmp side = (x y : List ℕ) → cmp x y ≡ Less → rank (side x) ≤ rank (side y)
