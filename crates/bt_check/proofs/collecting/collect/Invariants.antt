use Rattle.std.proofs.Common.{◌≤◌, ◌+◌, btree_set_len}
use Rattle.std.specs.FinMap.{get}
use Rattle.tc_base.specs.Maps.{Map as stored}
use Rattle.bt_check.specs.Keys.{IsListed}
use Rattle.bt_check.specs.Looks.{Holds, Looks}
use Rattle.bt_check.proofs.Collects.{Collects}
use Rattle.bt_check.proofs.collecting.collect.Given as goal

abbrev pub invariant-loop-key : goal.invariant-loop-key
invariant-loop-key g l = record {
  looks : Looks g.R.S.Space g.R.Records l.fn.store l.store l.fn.space l.space;
  asks : g.R.Records.gets l.store ≤ g.R.Records.gets l.fn.store + l.key-index;
  few : btree_set_len l.collected.ids ≤ l.key-index;
  collects : (m : stored) → Holds g.R.S.Space g.R.Records l.fn.store l.fn.space m → IsListed (get m) l.keys → Collects l.head l.index (get m) l.keys l.key-index l.collected.ids l.collected.within;
}
