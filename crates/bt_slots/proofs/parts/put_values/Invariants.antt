use Rattle.std.proofs.Common.{◌≡◌, ◌-◌, ◌++◌}
use Rattle.bt_slots.specs.Reads.{values_in}
use Rattle.bt_slots.proofs.parts.put_values.Given as goal

abbrev pub invariant-loop-i : goal.invariant-loop-i
invariant-loop-i l = record { all : l.values ++ (values_in (l.n - l.i) l.rest).0 ≡ l.fn.values ++ (values_in l.n l.bytes).0 }
