use Rattle.std.proofs.Common.{◌≡◌, drop}
use Rattle.tc_base.specs.Lists.{first}
use Rattle.tc_plain.proofs.trees.first_of.Given as goal

abbrev pub invariant-loop-pair : goal.invariant-loop-pair
invariant-loop-pair l = first l.pairs l.key ≡ first (drop l.pair-index l.pairs) l.key
