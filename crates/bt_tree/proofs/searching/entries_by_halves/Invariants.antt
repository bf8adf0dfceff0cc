use Rattle.std.proofs.Common.{◌-◌}
use Rattle.bt_page.specs.declared.page.NodeEntry.{NodeEntry}
use Rattle.bt_tree.proofs.Dividers.{Halves}
use Rattle.bt_tree.proofs.searching.entries_by_halves.Given as goal

abbrev pub invariant-loop-low : goal.invariant-loop-low
invariant-loop-low g l = Halves (λ (x : NodeEntry). x.key) (g.D.Divider.in_front l.divider) l.node.entries l.low l.high

abbrev pub decreases-loop-low : goal.decreases-loop-low
decreases-loop-low g l = l.high - l.low
