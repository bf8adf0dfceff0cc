use Rattle.tc_base.proofs.Decimals.{blanks_stop, blanks_end}
use Rattle.tc_base.proofs.decimal.behind_blanks.Goals as goal

pub returns-then-b-gt32 : goal.returns-then-b-gt32
returns-then-b-gt32 c = blanks_stop c.args.text.now c.loop-i.i c.loop-i-test.true c.loop-i.invariant c.if-b-gt32.true

pub returns : goal.returns
returns c = blanks_end c.args.text.now c.loop-i.i c.loop-i-test.false c.loop-i.auto.i-end c.loop-i.invariant
