use Rattle.std.proofs.Common.{◌≡◌, ◌≤◌, ◌++◌, length}
use Rattle.tc_base.specs.Maps.{Map as stored}
use Rattle.bt_rows.specs.Rows.{next_row}
use Rattle.bt_check.specs.Looks.{AsksOrKeeps, Holds, Looks}
use Rattle.bt_check.specs.ReadPages.{OfPages}
use Rattle.bt_check.specs.Walks.{AreThere, IsNextOf, leaf_places}
use Rattle.bt_check.proofs.walking.pass.Given as goal

abbrev pub invariant-loop-slot : goal.invariant-loop-slot
invariant-loop-slot g l = record {
  looks : Looks g.R.S.Space g.R.Records l.fn.store l.store l.fn.space l.space;
  asks : AsksOrKeeps g.R.Records (length l.yielded) l.fn.store l.store l.fn.leaves l.leaves;
  kept : l.leaves ≡ l.fn.leaves ++ leaf_places l.yielded;
  room : l.next.room ≡ l.room;
  few : length l.next.places ≤ l.room;
  next_is : (m : stored) → Holds g.R.S.Space g.R.Records l.fn.store l.fn.space m → OfPages m (λ pages. AreThere pages l.yielded → IsNextOf (next_row pages l.yielded) l.room l.next);
}
