use Rattle.tc_space.specs.Frames.{keeps_then}
use Rattle.tc_space.specs.Stores.{Only, ready_writes}
use Rattle.tc_hashdb.specs.Changing.{head_then}
use Rattle.tc_hashdb.specs.Holding.{Means}
use Rattle.tc_hashdb.proofs.Dropped.{out_more}
use Rattle.tc_hashdb.proofs.holding.HashEngine.drop_each.Goals as goal

pub drop_key-requires : goal.drop_key-requires
drop_key-requires g c = record { ready = ready_writes g.S.Space (Means g.S.Space) (Only 0) _ _ _ _ _ c.loop-key.invariant.writes c.requires.ready }

pub loop-key-preserved : goal.loop-key-preserved
loop-key-preserved g c = record {
  writes = out_more g.S.Space _ _ _ _ _ _ c.args.keys.now c.loop-key.key-index c.key-item.result c.as_slice.result.now c.loop-key-test.true c.key-item.is c.as_slice.ensures c.loop-key.invariant.writes c.in_ok-drop_key.ensures.out;
  numbers = head_then _ _ _ c.loop-key.invariant.numbers c.drop_key.ensures.numbers;
  keeps = keeps_then g.S.Space _ _ _ c.loop-key.invariant.keeps c.drop_key.ensures.keeps;
}
