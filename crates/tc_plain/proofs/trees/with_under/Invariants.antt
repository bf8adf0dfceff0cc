use Rattle.std.proofs.Common.{◌≡◌, ◌++◌, drop}
use Rattle.std.specs.Prelude.{map}
use Rattle.tc_base.specs.Lists.{pair}
use Rattle.tc_plain.proofs.trees.with_under.Given as goal

abbrev pub invariant-loop-value : goal.invariant-loop-value
invariant-loop-value l = l.found ++ map (pair l.key) (drop l.value-index l.values) ≡ l.initial.found ++ map (pair l.key) l.values
