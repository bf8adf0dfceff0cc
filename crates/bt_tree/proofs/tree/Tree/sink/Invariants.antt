use Rattle.bt_tree.proofs.Prunings.{IsSinking}
use Rattle.bt_tree.proofs.tree.Tree.sink.Given as goal

abbrev pub invariant-loop-self : goal.invariant-loop-self
invariant-loop-self g l = IsSinking g.R.S.Space g.R.Records g.O.Order l.initial.self l.self l.initial.space l.space

abbrev pub decreases-loop-self : goal.decreases-loop-self
decreases-loop-self g l = l.self.height
