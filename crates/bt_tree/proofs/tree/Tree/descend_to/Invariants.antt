use Rattle.std.proofs.Common.{ℕ, List, []}
use Rattle.bt_tree.specs.Ranging.{start_of}
use Rattle.bt_tree.proofs.Descents.{Descends}
use Rattle.bt_tree.proofs.tree.Tree.descend_to.Given as goal

abbrev pub invariant-loop-i : goal.invariant-loop-i
invariant-loop-i g l =
    (path : List (ℕ × ℕ))
    × Descends g.R.S.Space g.R.Records g.O.Order (start_of (g.C.Cut.side_of l.cut)) [] l.fn.self l.self path l.fn.space l.space l.fn.steps l.steps l.id l.i
