use Rattle.std.proofs.Common.{arith}
use Rattle.tc_held.proofs.Ascending.{halves_down, halves_end, halves_none, halves_up}
use Rattle.tc_held.specs.Pieces.{blank}
use Rattle.tc_held.proofs.finding.find.Goals as goal

pub loop-low-init : goal.loop-low-init
loop-low-init c = halves_none c.args.file c.args.at c.args.pieces.now

pub ends_before-requires : goal.ends_before-requires
ends_before-requires c = c.requires.small _ blank (omega (arith, c.loop-low-test.true, c.loop-low.invariant.inside))

pub loop-low-preserved-then-ends_before : goal.loop-low-preserved-then-ends_before
loop-low-preserved-then-ends_before c = halves_up c.args.file c.args.at c.args.pieces.now c.loop-low.low c.loop-low.high _ c.requires.ascend c.loop-low.invariant (omega arith) (omega (arith, c.loop-low-test.true)) (c.ends_before.ensures.before c.if-ends_before.true)

pub loop-low-preserved : goal.loop-low-preserved
loop-low-preserved c = halves_down c.args.file c.args.at c.args.pieces.now c.loop-low.low c.loop-low.high _ c.requires.ascend c.loop-low.invariant (omega arith) (omega (arith, c.loop-low-test.true)) (c.ends_before.ensures.behind c.if-ends_before.false)

pub returns : goal.returns
returns c = halves_end c.args.file c.args.at c.args.pieces.now c.loop-low.low c.loop-low.high c.loop-low.invariant c.loop-low-test.false
