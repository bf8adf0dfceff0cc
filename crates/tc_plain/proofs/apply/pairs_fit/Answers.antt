use Rattle.tc_plain.proofs.Fitting.{pairs_held, pairs_over}
use Rattle.tc_plain.proofs.apply.pairs_fit.Goals as goal

pub returns-in_default : goal.returns-in_default
returns-in_default c = pairs_over c.args.pairs.now c.loop-pair.pair-index c.loop-pair.room c.pair-item.result _ c.loop-pair.invariant c.loop-pair-test.true c.pair-item.is (c.in_default.ensures)

pub returns : goal.returns
returns c = pairs_held c.args.pairs.now c.loop-pair.pair-index c.loop-pair.room c.loop-pair.invariant c.loop-pair-test.false
