use Rattle.std.proofs.Common.{◌≡◌, ◌++◌, ◌-◌, length, map}
use Rattle.bt_rows.specs.Rows.{children_of, entry_slot}
use Rattle.bt_slots.specs.Reads.{entries_in}
use Rattle.bt_check.proofs.walking.name_all.Given as goal

abbrev pub invariant-loop-i : goal.invariant-loop-i
invariant-loop-i l = l.next ++ map entry_slot (entries_in (length l.node.entries - l.i) l.rest) ≡ l.fn.next ++ children_of l.fn.bound l.node
