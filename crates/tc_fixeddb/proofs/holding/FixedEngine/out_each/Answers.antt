use Rattle.tc_space.specs.Frames.{keeps_then}
use Rattle.tc_space.specs.Stores.{Only, ready_writes}
use Rattle.tc_fixed.specs.Holding.{Means}
use Rattle.tc_fixeddb.proofs.Several.{out_more}
use Rattle.tc_fixeddb.proofs.Stored.{shapes}
use Rattle.tc_fixeddb.proofs.holding.FixedEngine.out_each.Goals as goal

pub out_named-requires : goal.out_named-requires
out_named-requires g c = record { ready = ready_writes g.S.Space (Means g.S.Space) (Only 0) _ _ _ _ _ c.loop-key.invariant.writes c.requires.ready }

pub loop-key-preserved : goal.loop-key-preserved
loop-key-preserved g c = record {
  writes = out_more g.S.Space _ _ _ _ _ _ c.args.keys.now c.loop-key.key-index c.key-item.result c.as_slice.result.now c.loop-key-test.true c.key-item.is c.as_slice.ensures c.loop-key.invariant.writes c.loop-key.invariant.shape c.in_ok-out_named.ensures.out;
  shape = shapes g.S.Space _ _ _ c.loop-key.invariant.shape c.out_named.ensures.shape;
  keeps = keeps_then g.S.Space _ _ _ c.loop-key.invariant.keeps c.out_named.ensures.keeps;
}
