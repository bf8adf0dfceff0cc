-- Which rows a stretch of an index has.
use Rattle.std.specs.Prelude.{◌≡◌, ℕ, true, List, Some, slice_get}
use Rattle.tc_base.specs.declared.order.Side.TheVariants.{Inside}
use Rattle.tc_model.specs.declared.query.Query.{Query}
use Rattle.tc_model.specs.declared.query.Cond.{Cond}
use Rattle.tc_model.specs.Operators.{all_tokens, some_token}
use Rattle.tc_model.specs.Rows.{Row, column}
use Rattle.tc_model.specs.Search.{holds}
use Rattle.tc_model.specs.Well.{IsRow}
use Rattle.bt_order.specs.Values.{side_valued, side_beginning}
use Rattle.bt_order.specs.Numbers.{side_numbered}
use Rattle.td_index.specs.Entries.{entry}
use Rattle.td_plan.specs.Spans.{Covers}
use Rattle.td_plan.specs.declared.choice.Choice.{Choice}
use Rattle.td_plan.specs.declared.choice.Indexed.{Indexed}
use Rattle.td_plan.specs.declared.span.Span.{Span}
use Rattle.td_plan.specs.declared.span.Span.TheVariants.{Value, Begin, Number, AllTokens, SomeToken}

-- of a column's value and a primary key: their key in the index is inside, or the value has the tokens
abbrev pub IsIn : Span → List ℕ → List ℕ → List ℕ → Type 0
IsIn (Value cut) e value key = side_valued cut.value (entry value key) ≡ Inside
IsIn (Begin cut) e value key = side_beginning cut.prefix (entry value key) ≡ Inside
IsIn (Number cut) e value key = side_numbered cut.low cut.high (entry value key) ≡ Inside
IsIn AllTokens e value key = all_tokens value e ≡ true
IsIn SomeToken e value key = some_token value e ≡ true

-- each row that meets the query has the column, and is there
abbrev pub HasAll : Query → Span → Cond → Type 0
HasAll q span c = (key : List ℕ) (row : Row) → IsRow row → holds q (key, row) ≡ true → (value : List ℕ) × (column row c.column ≡ Some value) × IsIn span c.expression value key

-- the stretch has the pairs of the chosen index that meet the chosen condition
abbrev pub IsCovered : Query → List Indexed → Choice → Span → Type 0
IsCovered q indexes x span = (c : Cond) (i : Indexed) → slice_get q.conds x.cond ≡ Some c → slice_get indexes x.index ≡ Some i → Covers i.kind span c.operator c.expression
