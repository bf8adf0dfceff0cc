use Rattle.tc_space.specs.Frames.{keeps_then, reads_then}
use Rattle.ty_base.specs.Holding.{Held}
use Rattle.tc_model.specs.Stores.{first_pair}
use Rattle.tc_engine.specs.Rows.{extends_then}
use Rattle.ty_answers.proofs.Filling.{next_pairs}
use Rattle.ty_answers.proofs.reads.fill_pairs.Goals as goal

pub loop-key-preserved : goal.loop-key-preserved
loop-key-preserved g c = record {
  reads = reads_then g.E.S.Space (Held g.E.S.Space g.E.Storage.holds) _ _ _ _ _ _ c.loop-key.invariant.reads c.fill_pair.ensures.reads;
  keeps = keeps_then g.E.S.Space _ _ _ c.loop-key.invariant.keeps c.fill_pair.ensures.keeps;
  front = extends_then c.args.into.now c.loop-key.into c.fill_pair.new.into c.loop-key.invariant.front c.fill_pair.ensures.front;
  rows = λ k h. next_pairs (first_pair k) c.args.into.now c.loop-key.into c.fill_pair.new.into c.args.keys.now c.loop-key.key-index c.key-item.result c.key-item.result c.loop-key-test.true c.key-item.is (c.loop-key.invariant.rows k h) (c.in_ok-fill_pair.ensures.rows k (c.loop-key.invariant.reads.means k h));
}
