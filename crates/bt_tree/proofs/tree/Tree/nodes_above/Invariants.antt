use Rattle.std.proofs.Common.{length}
use Rattle.bt_tree.proofs.Issues.{IsCounting}
use Rattle.bt_tree.proofs.tree.Tree.nodes_above.Given as goal

abbrev pub invariant-loop-id : goal.invariant-loop-id
invariant-loop-id g l = IsCounting g.R.S.Space g.R.Records l.fn.self l.self l.fn.space l.space l.fn.added l.more l.nodes l.way

abbrev pub decreases-loop-id : goal.decreases-loop-id
decreases-loop-id g l = length l.way
