use Rattle.bt_tree.proofs.Visitings.{Visiting}
use Rattle.bt_tree.proofs.tree.Tree.visit.Given as goal

-- so many leaves behind the first were visited, and what was shown them stands as it may to what it was
abbrev pub invariant-loop-i : goal.invariant-loop-i
invariant-loop-i g l =
    Visiting g.R.S.Space g.R.Records g.O.Order g.met.O.Order.total g.met.O.Order.exact (g.C.Cut.side_of l.cut) (g.met.C.Cut.never_falls l.cut) g.T.Taker.takes l.fn.self l.fn.space l.fn.steps l.fn.taker
    l.self l.space l.steps l.taker l.next l.i
    × g.T.Taker.stays l.fn.taker l.taker
