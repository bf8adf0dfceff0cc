use Rattle.std.proofs.Common.{◌∙◌, arith}
use Rattle.tc_base.proofs.Decimals.{decimal-nil, in_run, whole_more, whole_all}
use Rattle.tc_base.proofs.decimal.whole_part.Goals as goal

pub loop-i-init : goal.loop-i-init
loop-i-init c = (omega (arith, decimal-nil), omega arith)

pub overflow_sub-text : goal.overflow_sub-text
overflow_sub-text c = (in_run c.args.text.now c.loop-i.i (omega (arith, c.requires.run, c.loop-i-test.true))).0

pub loop-i-preserved : goal.loop-i-preserved
loop-i-preserved c = (
  c.min-whole.ensures ∙ whole_more c.args.text.now c.args.run c.loop-i.i c.loop-i.whole c.from.result c.requires.run c.requires.within c.loop-i-test.true c.loop-i.invariant.0 c.from.ensures,
  omega (arith, c.min-whole.ensures),
)

pub returns-clause-value : goal.returns-clause-value
returns-clause-value c = whole_all c.args.text.now c.args.run c.loop-i.i c.loop-i.whole c.requires.run (omega arith) c.loop-i.invariant.0
