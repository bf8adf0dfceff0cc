-- The stretch of an index in which the rows that meet a condition stand.
use Rattle.std.specs.Prelude.{◌≡◌, ◌↔◌, ◌≤ℤ◌, ℕ, ℤ, Bool, true, false, ◌&&◌, ◌||◌, List, Some, int_le}
use Rattle.tc_base.specs.declared.order.Side.{Side}
use Rattle.tc_base.specs.declared.order.Side.TheVariants.{Inside}
use Rattle.td_index.specs.Entries.{entry, has_zero}
use Rattle.tc_model.specs.Operators.{meets, all_tokens, some_token}
use Rattle.tc_model.specs.declared.query.IndexKind.{IndexKind}
use Rattle.tc_model.specs.declared.query.IndexKind.TheVariants as kinds
use Rattle.bt_order.specs.Values.{side_valued, side_beginning}
use Rattle.bt_order.specs.Numbers.{side_numbered}
use Rattle.bt_order.specs.declared.numbers.NumberCut.{NumberCut}
use Rattle.td_plan.specs.Choices.{asks_all}
use Rattle.td_plan.specs.declared.span.Span.{Span}
use Rattle.td_plan.specs.declared.span.Span.TheVariants.{Value, Begin, Number, AllTokens, SomeToken}

-- a column's value meets an operator and an expression
abbrev pub IsMet : ℕ → List ℕ → List ℕ → Type 0
IsMet n e value = meets n (Some value) e ≡ true

-- the keys inside are those of the values that meet them
abbrev pub IsWithin : (List ℕ → Side) → ℕ → List ℕ → Type 0
IsWithin side n e = (value key : List ℕ) → has_zero value ≡ false → (side (entry value key) ≡ Inside) ↔ IsMet n e value

-- a stretch of an index of that type: exactly the values that meet them, or tokens that each such value has
abbrev pub Covers : IndexKind → Span → ℕ → List ℕ → Type 0
Covers kinds.Lexical (Value cut) n e = IsWithin (side_valued cut.value) n e
Covers kinds.Lexical (Begin cut) n e = IsWithin (side_beginning cut.prefix) n e
Covers kinds.Decimal (Number cut) n e = IsWithin (side_numbered cut.low cut.high) n e
Covers kinds.Token AllTokens n e = (asks_all n ≡ true) × ((value : List ℕ) → IsMet n e value → all_tokens value e ≡ true)
Covers kinds.Token SomeToken n e = (asks_all n ≡ false) × ((value : List ℕ) → IsMet n e value → some_token value e ≡ true)
Covers _ _ n e = ⊥

-- between two numbers, both included, in either order
abbrev pub lies : ℤ → ℤ → ℤ → Bool
lies v a b = (int_le a v && int_le v b) || (int_le b v && int_le v a)

-- both ends included
abbrev pub IsFrom : NumberCut → ℤ → Type 0
IsFrom cut v = (cut.low ≤ℤ v) × (v ≤ℤ cut.high)
