use Rattle.std.proofs.Common.{◌≡◌, ◌≤◌, length, drop}
use Rattle.bt_ways.specs.Laws.{spliced}
use Rattle.bt_tree.proofs.climbing.splice.Given as goal

abbrev pub invariant-loop-left : goal.invariant-loop-left
invariant-loop-left l = record { few : l.left ≤ length l.added; so : l.all ≡ record { heir = l.fn.node.heir; entries = spliced l.fn.node.entries l.place (drop l.left l.added) } }

abbrev pub decreases-loop-left : goal.decreases-loop-left
decreases-loop-left l = l.left
