use Rattle.std.proofs.Common.{◌≡◌, ◌++◌, drop}
use Rattle.tc_base.specs.Lists.{values}
use Rattle.tc_plain.proofs.trees.values_of.Given as goal

abbrev pub invariant-loop-pair : goal.invariant-loop-pair
invariant-loop-pair l = l.found ++ values (drop l.pair-index l.pairs) l.key ≡ values l.pairs l.key
