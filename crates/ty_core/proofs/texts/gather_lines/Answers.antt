use Rattle.std.proofs.Common.{◌+◌, [], length, refl, sym, arith}
use Rattle.std.proofs.lemmas.List.{append-nil}
use Rattle.std.specs.Prelude.{None}
use Rattle.tc_reach.proofs.Handed.{on_err_any}
use Rattle.tc_space.specs.Frames.{keeps_refl, keeps_then, reads_then}
use Rattle.ty_wire.proofs.ItemLemmas.{prefix_then}
use Rattle.ty_base.specs.Holding.{Held}
use Rattle.ty_pieces.specs.Pieces.{got}
use Rattle.ty_core.proofs.Fronts.{still_inside}
use Rattle.ty_core.proofs.Texting.{declines_behind, lines_all, lines_next, long_at}
use Rattle.ty_core.proofs.texts.gather_lines.Goals as goal

pub loop-key-init : goal.loop-key-init
loop-key-init g c = record {
  ready = c.requires.ready;
  reads = record { now = λ t f. refl; touched = refl; sound = c.requires.ready.sound; means = λ d h. h };
  keeps = keeps_refl g.B.S.Space c.args.space.now;
  front = ([], sym (append-nil c.args.waiting.now));
  came = λ replica w d h. sym (append-nil c.args.waiting.now);
  few = omega arith;
}

pub loop-key-preserved : goal.loop-key-preserved
loop-key-preserved g c = record {
  ready = c.in_ok-add_lines.ensures.ready;
  reads = reads_then g.B.S.Space (Held g.B.S.Space g.B.Storage.holds) _ _ _ _ _ _ c.loop-key.invariant.reads c.in_ok-add_lines.ensures.reads;
  keeps = keeps_then g.B.S.Space _ _ _ c.loop-key.invariant.keeps c.add_lines.ensures.keeps;
  front = prefix_then _ _ _ c.loop-key.invariant.front c.add_lines.ensures.waiting_front;
  came = λ replica w d h.
      lines_next (got replica d w) c.as_slice-key-items.result.now c.loop-key.key-index c.key-item.result c.args.waiting.now c.loop-key.waiting _ c.loop-key-test.true c.key-item.is (c.loop-key.invariant.came replica w d h)
      (c.in_ok-add_lines.ensures.adds replica w d (c.loop-key.invariant.reads.means d h));
  few = omega arith;
}

pub returns-in_err-add_lines-clause-refused : goal.returns-in_err-add_lines-clause-refused
returns-in_err-add_lines-clause-refused g c = on_err_any _ (declines_behind g.B.S.Space g.B.Storage.holds c.args.base.now c.loop-key.base c.add_lines.new.base c.args.space.now c.loop-key.space c.add_lines.new.space None None c.loop-key.invariant.reads c.in_err-add_lines.ensures.refused)

pub returns-in_err-add_lines-clause-waiting_front : goal.returns-in_err-add_lines-clause-waiting_front
returns-in_err-add_lines-clause-waiting_front g c = prefix_then _ _ _ c.loop-key.invariant.front c.add_lines.ensures.waiting_front

pub returns-clause-gathers : goal.returns-clause-gathers
returns-clause-gathers g c = λ replica w d h. record {
  all = λ is. lines_all (got replica d w) c.as_slice-key-items.result.now c.args.keys.now c.loop-key.key-index c.args.waiting.now c.loop-key.waiting c.as_slice-key-items.ensures c.loop-key-test.false (c.loop-key.invariant.came replica w d h);
  long = λ is. absurd cc;
}

pub returns-then-added-gt-LINES_MOST-clause-gathers : goal.returns-then-added-gt-LINES_MOST-clause-gathers
returns-then-added-gt-LINES_MOST-clause-gathers g c = λ replica w d h. record {
  all = λ is. absurd cc;
  long = λ is.
      let come =
      lines_next (got replica d w) c.as_slice-key-items.result.now c.loop-key.key-index c.key-item.result c.args.waiting.now c.loop-key.waiting _ c.loop-key-test.true c.key-item.is (c.loop-key.invariant.came replica w d h) (c.in_ok-add_lines.ensures.adds replica w d (c.loop-key.invariant.reads.means d h)) in
      long_at (got replica d w) c.as_slice-key-items.result.now c.args.keys.now (c.loop-key.key-index + 1) c.args.waiting.now _ c.as_slice-key-items.ensures come (omega (arith, c.if-added-gt-LINES_MOST.true));
}

pub returns-then-added-gt-LINES_MOST-clause-reads : goal.returns-then-added-gt-LINES_MOST-clause-reads
returns-then-added-gt-LINES_MOST-clause-reads g c = reads_then g.B.S.Space (Held g.B.S.Space g.B.Storage.holds) _ _ _ _ _ _ c.loop-key.invariant.reads c.in_ok-add_lines.ensures.reads

pub returns-then-added-gt-LINES_MOST-clause-waiting_front : goal.returns-then-added-gt-LINES_MOST-clause-waiting_front
returns-then-added-gt-LINES_MOST-clause-waiting_front g c = prefix_then _ _ _ c.loop-key.invariant.front c.add_lines.ensures.waiting_front

pub overflow_sub-added : goal.overflow_sub-added
overflow_sub-added g c =
    let more = still_inside c.args.waiting.now c.add_lines.new.waiting (length c.args.waiting.now) (prefix_then _ _ _ c.loop-key.invariant.front c.add_lines.ensures.waiting_front) (omega arith) in
    omega (arith, more)
