use Rattle.std.proofs.Common.{◌≡◌, ◌-◌, Some, length}
use Rattle.bt_slots.specs.Reads.{items_in}
use Rattle.bt_check.specs.Leaves.{key_behind, last_key}
use Rattle.bt_check.proofs.ordering.last_key.Given as goal

abbrev pub invariant-loop-i : goal.invariant-loop-i
invariant-loop-i l = last_key l.leaf.items ≡ Some (key_behind l.last (items_in (length l.leaf.items - l.i) l.rest))
