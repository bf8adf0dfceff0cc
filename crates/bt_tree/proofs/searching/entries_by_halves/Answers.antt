use Rattle.std.proofs.Common.{arith, rules}
use Rattle.bt_page.specs.declared.page.NodeEntry.{NodeEntry}
use Rattle.bt_tree.proofs.Dividers.{halves_up, halves_down}
use Rattle.bt_tree.proofs.searching.entries_by_halves.Goals as goal

pub loop-low-preserved-then-is_front : goal.loop-low-preserved-then-is_front
loop-low-preserved-then-is_front g c =
    halves_up (λ (x : NodeEntry). x.key) (g.D.Divider.in_front c.args.divider.now) c.args.node.now.entries c.loop-low.low c.loop-low.high _ c.loop-low.invariant (omega (arith, c.loop-low-test.true)) (omega (arith, c.loop-low-test.true)) c.key.result.now c.key.ensures (search rules)

pub loop-low-preserved : goal.loop-low-preserved
loop-low-preserved g c =
    halves_down (λ (x : NodeEntry). x.key) (g.D.Divider.in_front c.args.divider.now) c.args.node.now.entries c.loop-low.low c.loop-low.high _ c.loop-low.invariant (omega (arith, c.loop-low-test.true)) (omega (arith, c.loop-low-test.true)) c.key.result.now c.key.ensures (search rules)
