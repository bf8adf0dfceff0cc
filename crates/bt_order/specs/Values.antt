-- The keys with one value part, and those whose value part begins with some bytes.
use Rattle.std.specs.Prelude.{ℕ, List}
use Rattle.tc_base.specs.Orders.{lexical, value_part}
use Rattle.tc_base.specs.declared.order.Side.{Side}
use Rattle.bt_order.specs.Sides.{side_begun, side_beside}

abbrev pub side_valued : List ℕ → List ℕ → Side
side_valued value key = side_beside (lexical (value_part key) value)

abbrev pub side_beginning : List ℕ → List ℕ → Side
side_beginning prefix key = side_begun prefix (value_part key)
