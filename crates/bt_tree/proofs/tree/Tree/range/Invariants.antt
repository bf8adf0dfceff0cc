use Rattle.std.proofs.Common.{length}
use Rattle.bt_tree.proofs.Ranges.{Scanning, wanted}
use Rattle.bt_tree.proofs.tree.Tree.range.Given as goal

abbrev pub invariant-leaves : goal.invariant-leaves
invariant-leaves g l =
    Scanning g.R.S.Space g.R.Records g.O.Order g.met.O.Order.total g.met.O.Order.exact (g.C.Cut.side_of l.cut) (g.met.C.Cut.never_falls l.cut) l.max l.fn.self l.fn.space l.fn.steps
    l.self l.space l.steps l.pairs l.next

abbrev pub decreases-leaves : goal.decreases-leaves
decreases-leaves g l = wanted l.next l.max (length l.pairs)
