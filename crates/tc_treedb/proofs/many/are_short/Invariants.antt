use Rattle.std.proofs.Common.{◌≡◌, drop}
use Rattle.std.specs.List.{list_all}
use Rattle.tc_treedb.specs.Changing.{is_short}
use Rattle.tc_treedb.proofs.many.are_short.Given as goal

abbrev pub invariant-loop-pair : goal.invariant-loop-pair
invariant-loop-pair l = list_all is_short (drop l.pair-index l.pairs) ≡ list_all is_short l.pairs
