use Rattle.std.proofs.Common.{◌∙◌, arith}
use Rattle.ty_memc.proofs.Values.{decimal-nil, value_more}
use Rattle.ty_memc.proofs.words.value_of.Goals as goal

pub loop-i-init : goal.loop-i-init
loop-i-init c = (omega (arith, decimal-nil), omega arith)

pub loop-i-preserved : goal.loop-i-preserved
loop-i-preserved c = (
  c.min-value.ensures ∙ value_more c.args.text.now c.loop-i.i c.loop-i.value c.from.result c.loop-i-test.true c.loop-i.invariant.0 c.from.ensures,
  omega (arith, c.min-value.ensures),
)
