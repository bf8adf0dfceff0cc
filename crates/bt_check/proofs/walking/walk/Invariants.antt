use Rattle.std.proofs.Common.{◌≡◌, ◌≤◌, ◌+◌, ℕ, length, btree_set_len}
use Rattle.tc_base.specs.Maps.{Map as stored}
use Rattle.bt_rows.specs.Rows.{held}
use Rattle.bt_check.specs.Collected.{has}
use Rattle.bt_check.specs.Looks.{Holds, Looks}
use Rattle.bt_check.specs.ReadPages.{OfPages}
use Rattle.bt_check.proofs.Walked.{Walking}
use Rattle.bt_check.proofs.walking.walk.Given as goal

abbrev pub invariant-rows : goal.invariant-rows
invariant-rows g l = record {
  looks : Looks g.R.S.Space g.R.Records l.fn.store l.store l.fn.space l.space;
  few : g.R.Records.gets l.store + btree_set_len l.ids + length l.leaves ≤ g.R.Records.gets l.fn.store + btree_set_len l.fn.ids;
  room : l.height + btree_set_len l.ids ≤ btree_set_len l.fn.ids;
  some : length l.row ≤ 0 → 1 ≤ l.height;
  walking : (m : stored) → Holds g.R.S.Space g.R.Records l.fn.store l.fn.space m → OfPages m (λ pages. ((id : ℕ) → has l.fn.ids id ≡ held pages id) → Walking pages l.root l.row l.ids l.leaves l.uneven l.height);
}

abbrev pub decreases-rows : goal.decreases-rows
decreases-rows g l = btree_set_len l.ids
