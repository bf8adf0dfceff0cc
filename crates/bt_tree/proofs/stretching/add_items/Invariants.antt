use Rattle.std.proofs.Common.{◌-◌, drop}
use Rattle.bt_tree.proofs.Cuts.{Adding}
use Rattle.bt_tree.proofs.stretching.add_items.Given as goal

abbrev pub invariant-loop-i : goal.invariant-loop-i
invariant-loop-i g l = Adding (g.C.Cut.side_of l.cut) l.max (drop l.place l.leaf.items) l.fn.pairs (l.i - l.place) l.pairs
