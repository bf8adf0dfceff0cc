use Rattle.std.specs.Prelude.{◌≤◌}
use Rattle.tc_treedb.proofs.Takings.{FurtherTo}
use Rattle.tc_treedb.proofs.takers.add_further.Given as goal

abbrev pub invariant-loop-i : goal.invariant-loop-i
invariant-loop-i l = record {
  within : l.i ≤ l.item.more;
  so_far : FurtherTo l.item.key.now l.item.further.now l.i l.rest l.fn.into l.into;
}
