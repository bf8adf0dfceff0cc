use Rattle.std.proofs.Common.{◌-◌, drop}
use Rattle.bt_tree.proofs.Shows.{Showing}
use Rattle.bt_tree.proofs.visiting.show_from.Given as goal

-- so many items were shown, and what was shown them stands as it may to what it was
abbrev pub invariant-loop-i : goal.invariant-loop-i
invariant-loop-i g l = Showing g.T.Taker.takes (g.C.Cut.side_of l.cut) (drop l.place l.leaf.items) l.fn.taker (l.i - l.place) l.taker × g.T.Taker.stays l.fn.taker l.taker
