use Rattle.std.proofs.Common.{◌≡◌, ◌++◌, drop}
use Rattle.bt_tree.proofs.seeking.copy_from.Given as goal

abbrev pub invariant-loop-i : goal.invariant-loop-i
invariant-loop-i l = record { so : l.items ++ drop l.i l.leaf.items ≡ drop l.place l.leaf.items }
