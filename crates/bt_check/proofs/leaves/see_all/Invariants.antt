use Rattle.std.proofs.Common.{◌≤◌, ◌+◌, length}
use Rattle.tc_base.specs.Maps.{Map as stored}
use Rattle.bt_rows.specs.Orders.{before_by}
use Rattle.bt_rows.specs.Rows.{leaves_among}
use Rattle.bt_check.specs.Leaves.{IsSeen}
use Rattle.bt_check.specs.Looks.{Holds, Looks}
use Rattle.bt_check.specs.ReadPages.{OfPages}
use Rattle.bt_check.specs.Walks.{AreThere}
use Rattle.bt_check.proofs.leaves.see_all.Given as goal

abbrev pub invariant-loop-slot : goal.invariant-loop-slot
invariant-loop-slot g l = record {
  looks : Looks g.R.S.Space g.R.Records l.fn.store l.store l.fn.space l.space;
  asks : g.R.Records.gets l.store ≤ g.R.Records.gets l.fn.store + length l.yielded;
  seen : (m : stored) → Holds g.R.S.Space g.R.Records l.fn.store l.fn.space m → OfPages m (λ pages. AreThere pages l.yielded → IsSeen (before_by g.O.Order.cmp) l.head (leaves_among pages l.yielded) l.seen);
}
