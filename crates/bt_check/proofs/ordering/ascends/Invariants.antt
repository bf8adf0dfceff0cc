use Rattle.std.proofs.Common.{◌↔◌, ◌-◌, length}
use Rattle.bt_rows.specs.Orders.{before_by}
use Rattle.bt_rows.specs.Rules.{Ascends}
use Rattle.bt_slots.specs.Reads.{items_in}
use Rattle.bt_check.proofs.Rests.{AscendsFrom}
use Rattle.bt_check.proofs.ordering.ascends.Given as goal

abbrev pub invariant-loop-i : goal.invariant-loop-i
invariant-loop-i g l = Ascends (before_by g.O.Order.cmp) l.leaf.items ↔ AscendsFrom (before_by g.O.Order.cmp) l.last (items_in (length l.leaf.items - l.i) l.rest)
