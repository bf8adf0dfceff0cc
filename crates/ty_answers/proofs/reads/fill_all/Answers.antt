use Rattle.std.proofs.Common.{ℕ, List, subst}
use Rattle.tc_space.specs.Frames.{keeps_then, reads_then}
use Rattle.ty_base.specs.Holding.{Held}
use Rattle.tc_model.specs.Stores.{all_pairs}
use Rattle.tc_engine.specs.Rows.{Adds, extends_then}
use Rattle.ty_answers.proofs.Filling.{text_rows, texts_more}
use Rattle.ty_answers.proofs.reads.fill_all.Goals as goal

pub loop-key-preserved-in_ok-fill_each : goal.loop-key-preserved-in_ok-fill_each
loop-key-preserved-in_ok-fill_each g c = record {
  reads = reads_then g.E.S.Space (Held g.E.S.Space g.E.Storage.holds) _ _ _ _ _ _ c.loop-key.invariant.reads c.fill_each.ensures.reads;
  keeps = keeps_then g.E.S.Space _ _ _ c.loop-key.invariant.keeps c.fill_each.ensures.keeps;
  front = extends_then c.args.into.now c.loop-key.into c.fill_each.new.into c.loop-key.invariant.front c.fill_each.ensures.front;
  rows = λ k h. texts_more (all_pairs k) c.args.into.now c.loop-key.into c.fill_each.new.into c.loop-key.yielded c.in-Some.key (c.loop-key.invariant.rows k h)
      (subst (λ (x : List ℕ). Adds c.loop-key.into c.fill_each.new.into (text_rows (all_pairs k x))) c.new-key.ensures (c.in_ok-fill_each.ensures.rows k (c.loop-key.invariant.reads.means k h)));
}

pub loop-key-preserved : goal.loop-key-preserved
loop-key-preserved g c = record {
  reads = reads_then g.E.S.Space (Held g.E.S.Space g.E.Storage.holds) _ _ _ _ _ _ c.loop-key.invariant.reads c.fill_each.ensures.reads;
  keeps = keeps_then g.E.S.Space _ _ _ c.loop-key.invariant.keeps c.fill_each.ensures.keeps;
  front = extends_then c.args.into.now c.loop-key.into c.fill_each.new.into c.loop-key.invariant.front c.fill_each.ensures.front;
  rows = λ k h. texts_more (all_pairs k) c.args.into.now c.loop-key.into c.fill_each.new.into c.loop-key.yielded c.in-Some.key (c.loop-key.invariant.rows k h)
      (subst (λ (x : List ℕ). Adds c.loop-key.into c.fill_each.new.into (text_rows (all_pairs k x))) c.new-key.ensures (c.in_ok-fill_each.ensures.rows k (c.loop-key.invariant.reads.means k h)));
}
