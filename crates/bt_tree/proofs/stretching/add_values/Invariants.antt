use Rattle.std.proofs.Common.{◌≡◌, ◌≤◌, ◌++◌, length, map, take}
use Rattle.tc_base.specs.Lists.{pair}
use Rattle.bt_tree.proofs.stretching.add_values.Given as goal

abbrev pub invariant-loop-value : goal.invariant-loop-value
invariant-loop-value l = record {
  grown : l.pairs ≡ l.fn.pairs ++ map (pair l.item.key) (take l.value-index l.item.values);
  room : length l.fn.pairs ≤ l.max → length l.pairs ≤ l.max;
}
