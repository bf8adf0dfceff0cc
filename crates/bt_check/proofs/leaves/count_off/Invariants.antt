use Rattle.std.proofs.Common.{◌≡◌, ◌-◌, length}
use Rattle.std.specs.List.{flat_map}
use Rattle.bt_rows.specs.Rules.{item_pairs}
use Rattle.bt_slots.specs.Reads.{items_in}
use Rattle.bt_check.specs.Leaves.{less}
use Rattle.bt_check.proofs.leaves.count_off.Given as goal

abbrev pub invariant-loop-i : goal.invariant-loop-i
invariant-loop-i l = less l.fn.left (length (flat_map item_pairs l.leaf.items)) ≡ less l.left (length (flat_map item_pairs (items_in (length l.leaf.items - l.i) l.rest)))
