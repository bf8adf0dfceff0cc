use Rattle.std.proofs.Common.{◌≡◌, ◌+◌, arith}
use Rattle.tc_space.specs.Frames.{keeps_then, others_then}
use Rattle.tc_space.specs.Stores.{Only}
use Rattle.hf_pack.proofs.Streaming.{copied_more}
use Rattle.hf_pack.proofs.stream.Stream.copy.Goals as goal

pub loop-done-preserved : goal.loop-done-preserved
loop-done-preserved g c =
    let i = c.loop-done.invariant in
    let w = c.in_ok-copy_piece.ensures.writes in
    record {
      low = omega (arith, c.min-n.ensures, i.low, c.loop-done-test.true);
      is_sound = w.outcome.ok;
      others = others_then g.S.Space (Only c.args.file) c.args.space.now c.loop-done.space c.copy_piece.new.space i.others w.others;
      keeps = keeps_then g.S.Space c.args.space.now c.loop-done.space c.copy_piece.new.space i.keeps w.keeps;
      copied = λ t.
          let b = c.requires.behind t in
          let is : c.saturating_add.result ≡ c.args.from + c.loop-done.done = omega (arith, c.saturating_add.ensures, b.inside, c.requires.long t, i.low) in
          copied_more c.args.self.now c.loop-done.self c.copy_piece.new.self (g.S.Space.now c.args.space.now c.args.file) (g.S.Space.now c.loop-done.space c.args.file) (g.S.Space.now c.copy_piece.new.space c.args.file) c.args.from c.loop-done.done c.min-n.result c.saturating_add.result b.behind is
          (omega (arith, b.inside, i.low)) (i.copied t) (c.in_ok-copy_piece.ensures.copied t);
    }
