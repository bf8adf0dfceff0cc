use Rattle.std.proofs.Common.{length}
use Rattle.bt_tree.proofs.Partings.{LaysOn}
use Rattle.bt_tree.proofs.tree.Tree.lay.Given as goal

abbrev pub invariant-loop-rest : goal.invariant-loop-rest
invariant-loop-rest g l = LaysOn g.R.S.Space g.R.Records l.fn.leaves l.rest.items l.fn.self l.self l.fn.space l.space

abbrev pub decreases-loop-rest : goal.decreases-loop-rest
decreases-loop-rest g l = length l.rest.items
