-- Where a key stands beside a stretch.
use Rattle.std.specs.Prelude.{ℕ, Bool, List, length, take, if◌then◌else◌}
use Rattle.std.specs.Ordering.{is_lt, is_gt}
use Rattle.std.specs.declared.cmp.Ordering.{Ordering}
use Rattle.tc_base.specs.Orders.{lexical}
use Rattle.tc_base.specs.declared.order.Side.{Side}
use Rattle.tc_base.specs.declared.order.Side.TheVariants.{Before, Inside, After}

-- by a test for what is in front of the stretch, and one for what is behind it
abbrev pub side : Bool → Bool → Side
side below above = if below then Before else (if above then After else Inside)

-- by what a part of the key is beside the one value inside
abbrev pub side_beside : Ordering → Side
side_beside o = side (is_lt o) (is_gt o)

-- beside the bytes that begin with a prefix
abbrev pub side_begun : List ℕ → List ℕ → Side
side_begun prefix bytes = side_beside (lexical (take (length prefix) bytes) prefix)
