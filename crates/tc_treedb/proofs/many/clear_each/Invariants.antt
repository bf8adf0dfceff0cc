use Rattle.std.specs.Prelude.{take}
use Rattle.bt_tree.specs.Removing.{AddsNone}
use Rattle.tc_treedb.specs.Changing.{cleared_in}
use Rattle.tc_treedb.proofs.Severals.{SoFar}
use Rattle.tc_treedb.proofs.many.clear_each.Given as goal

abbrev pub invariant-loop-key : goal.invariant-loop-key
invariant-loop-key g l = SoFar g.R.S.Space g.R.Records g.O.Order (λ k. cleared_in g.O.Order.cmp k) (take l.key-index l.keys) l.fn.total l.so_far l.fn.tree l.tree l.fn.space l.space × AddsNone l.fn.tree l.tree
