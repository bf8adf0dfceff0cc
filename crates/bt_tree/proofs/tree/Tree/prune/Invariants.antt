use Rattle.std.proofs.Common.{length}
use Rattle.bt_tree.proofs.Prunings.{IsCutting}
use Rattle.bt_tree.proofs.tree.Tree.prune.Given as goal

abbrev pub invariant-loop-id : goal.invariant-loop-id
invariant-loop-id g l = IsCutting g.R.S.Space g.R.Records l.initial.self l.self l.initial.space l.space

abbrev pub decreases-loop-id : goal.decreases-loop-id
decreases-loop-id g l = length l.self.path
