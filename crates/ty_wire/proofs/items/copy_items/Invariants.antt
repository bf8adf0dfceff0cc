use Rattle.std.proofs.Common.{◌-◌, ◌*◌, ◌≤◌}
use Rattle.ty_wire.proofs.ItemLoops.{Ahead}
use Rattle.ty_wire.proofs.items.copy_items.Given as goal

abbrev pub invariant-loop-i : goal.invariant-loop-i
invariant-loop-i l = record {
  room : 4 * (l.count - l.i) ≤ l.spare;
  ahead : Ahead l.most l.count l.left l.bytes (l.count - l.i) l.spare l.rest l.items;
}
