use Rattle.std.specs.Prelude.{take}
use Rattle.tc_treedb.specs.Changing.{set_in}
use Rattle.tc_treedb.proofs.Severals.{SoFar}
use Rattle.tc_treedb.proofs.many.set_all.Given as goal

abbrev pub invariant-loop-pair : goal.invariant-loop-pair
invariant-loop-pair g l = SoFar g.R.S.Space g.R.Records g.O.Order (λ p. set_in g.O.Order.cmp p) (take l.pair-index l.pairs) l.fn.total l.so_far l.fn.tree l.tree l.fn.space l.space
