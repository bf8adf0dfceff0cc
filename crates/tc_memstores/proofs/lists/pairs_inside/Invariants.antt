use Rattle.std.proofs.Common.{◌≡◌, ◌++◌, take, drop}
use Rattle.tc_space.specs.Changes.{inside}
use Rattle.tc_memstores.proofs.lists.pairs_inside.Given as goal

abbrev pub invariant-loop-i : goal.invariant-loop-i
invariant-loop-i g l = l.found ++ take l.left (inside (g.C.Cut.side_of l.cut) (drop l.i l.pairs)) ≡ take l.most (inside (g.C.Cut.side_of l.cut) l.pairs)
