use Rattle.std.proofs.Common.{arith}
use Rattle.tc_plain.proofs.Fitting.{items_held, items_over}
use Rattle.tc_plain.proofs.apply.items_fit.Goals as goal

pub returns-in_default : goal.returns-in_default
returns-in_default c = items_over c.args.items.now c.loop-item.item-index c.loop-item.room c.item-item.result _ c.loop-item.invariant c.loop-item-test.true c.item-item.is (omega (arith, c.in_default.ensures, c.len.ensures))

pub returns : goal.returns
returns c = items_held c.args.items.now c.loop-item.item-index c.loop-item.room c.loop-item.invariant c.loop-item-test.false
