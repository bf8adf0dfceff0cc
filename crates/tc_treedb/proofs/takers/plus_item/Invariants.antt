use Rattle.std.specs.Prelude.{◌≤◌}
use Rattle.tc_treedb.proofs.Takings.{CountedTo}
use Rattle.tc_treedb.proofs.takers.plus_item.Given as goal

abbrev pub invariant-loop-i : goal.invariant-loop-i
invariant-loop-i l = record {
  within : l.i ≤ l.item.more;
  so_far : CountedTo l.item.key.now l.item.first.now l.item.further.now l.i l.rest l.fn.bytes l.total;
}
