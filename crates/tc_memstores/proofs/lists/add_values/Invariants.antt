use Rattle.std.proofs.Common.{◌≡◌, ◌++◌, drop, map}
use Rattle.tc_base.specs.Lists.{pair}
use Rattle.tc_memstores.proofs.lists.add_values.Given as goal

abbrev pub invariant-loop-value : goal.invariant-loop-value
invariant-loop-value l = l.into ++ map (pair l.key) (drop l.value-index l.values) ≡ l.fn.into ++ map (pair l.key) l.values
