use Rattle.std.proofs.Common.{arith}
use Rattle.ty_wire.proofs.ItemLemmas.{pair_short, pair_more}
use Rattle.ty_wire.proofs.writing.spell_pairs.Goals as goal

pub spell_pair-requires-clause-key : goal.spell_pair-requires-clause-key
spell_pair-requires-clause-key c =
    let short = pair_short c.args.pairs.now c.loop-pair.pair-index c.pair-item.result c.pair-item.result c.loop-pair-test.true c.pair-item.is in
    omega (arith, short, c.requires)

pub spell_pair-requires-clause-value : goal.spell_pair-requires-clause-value
spell_pair-requires-clause-value c =
    let short = pair_short c.args.pairs.now c.loop-pair.pair-index c.pair-item.result c.pair-item.result c.loop-pair-test.true c.pair-item.is in
    omega (arith, short, c.requires)

pub loop-pair-preserved : goal.loop-pair-preserved
loop-pair-preserved c = pair_more _ _ _ c.args.pairs.now c.loop-pair.pair-index c.pair-item.result c.loop-pair-test.true c.pair-item.is c.loop-pair.invariant c.in_ok-spell_pair.ensures.ok
