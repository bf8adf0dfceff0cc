use Rattle.std.proofs.Common.{rules}
use Rattle.tc_space.specs.Frames.{keeps_then}
use Rattle.tc_space.specs.Stores.{Only, ready_writes}
use Rattle.tc_fixed.specs.Holding.{Means}
use Rattle.tc_fixeddb.proofs.Several.{set_full, set_more}
use Rattle.tc_fixeddb.proofs.Stored.{shapes}
use Rattle.tc_fixeddb.proofs.holding.FixedEngine.set_each.Goals as goal

pub set_named-requires : goal.set_named-requires
set_named-requires g c = record { ready = ready_writes g.S.Space (Means g.S.Space) (Only 0) _ _ _ _ _ c.loop-pair.invariant.writes c.requires.ready }

pub loop-pair-preserved : goal.loop-pair-preserved
loop-pair-preserved g c = record {
  writes = set_more g.S.Space _ _ _ _ _ _ c.args.pairs.now c.loop-pair.pair-index c.pair-item.result c.as_slice.result.now c.as_slice-in-loop-pair.result.now c.loop-pair-test.true c.pair-item.is c.as_slice.ensures c.as_slice-in-loop-pair.ensures c.loop-pair.invariant.writes c.loop-pair.invariant.shape c.in_ok-set_named.ensures.set;
  shape = shapes g.S.Space _ _ _ c.loop-pair.invariant.shape c.set_named.ensures.shape;
  keeps = keeps_then g.S.Space _ _ _ c.loop-pair.invariant.keeps c.set_named.ensures.keeps;
}

pub returns-in_err-set_named-clause-full : goal.returns-in_err-set_named-clause-full
returns-in_err-set_named-clause-full g c = λ full. set_full g.S.Space _ _ _ _ _ c.args.pairs.now c.loop-pair.pair-index c.pair-item.result c.as_slice.result.now c.as_slice-in-loop-pair.result.now c.loop-pair-test.true c.pair-item.is c.as_slice.ensures c.as_slice-in-loop-pair.ensures c.loop-pair.invariant.writes c.loop-pair.invariant.shape (c.in_err-set_named.ensures.full (search (rules, full)))
