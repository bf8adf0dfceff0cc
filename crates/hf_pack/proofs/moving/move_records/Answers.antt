use Rattle.std.proofs.Common.{arith}
use Rattle.tc_space.specs.Frames.{keeps_refl, keeps_then, others_refl, others_then}
use Rattle.tc_space.specs.Stores.{Only}
use Rattle.hf_pack.proofs.Records.{moved_all, moved_free, moved_here, moved_more, moved_start}
use Rattle.hf_pack.proofs.moving.move_records.Goals as goal

pub loop-i-init : goal.loop-i-init
loop-i-init g c = record {
  is_sound = c.requires.ready.sound;
  others = others_refl g.S.Space (Only c.args.file) c.args.space.now;
  keeps = keeps_refl g.S.Space c.args.space.now;
  so = λ t ps listed. moved_start _ ps c.args.stream.now (g.S.Space.now c.args.space.now c.args.file);
}

pub loop-i-preserved-then-block : goal.loop-i-preserved-then-block
loop-i-preserved-then-block g c =
    let i = c.loop-i.invariant in
    record {
      is_sound = i.is_sound;
      others = i.others;
      keeps = i.keeps;
      so = λ t ps listed. moved_free _ c.args.head.now ps c.loop-i.i c.args.stream.now c.loop-i.stream (g.S.Space.now c.args.space.now c.args.file) (g.S.Space.now c.loop-i.space c.args.file) c.args.blocks.now c.at.result.now (i.so t ps listed) listed (c.requires.may t).starts c.at.ensures c.if-block.true;
    }

pub move_record-requires-clause-there : goal.move_record-requires-clause-there
move_record-requires-clause-there g c = λ t.
    let w = (c.requires.may t).listed in
    let x = moved_here _ c.args.head.now w.pieces c.loop-i.i c.args.stream.now c.loop-i.stream (g.S.Space.now c.args.space.now c.args.file) (g.S.Space.now c.loop-i.space c.args.file) c.args.blocks.now c.at.result.now (c.loop-i.invariant.so t w.pieces w.is) w.is (c.requires.may t).starts c.at.ensures c.if-block.false in
    record { r = x.r; has = x.has; sized = x.sized; low = x.low }

pub loop-i-preserved : goal.loop-i-preserved
loop-i-preserved g c =
    let i = c.loop-i.invariant in
    record {
      is_sound = c.in_ok-move_record.ensures.writes.outcome.ok;
      others = others_then g.S.Space (Only c.args.file) c.args.space.now c.loop-i.space c.move_record.new.space i.others c.in_ok-move_record.ensures.writes.others;
      keeps = keeps_then g.S.Space c.args.space.now c.loop-i.space c.move_record.new.space i.keeps c.in_ok-move_record.ensures.writes.keeps;
      so = λ t ps listed.
          let x = moved_here _ c.args.head.now ps c.loop-i.i c.args.stream.now c.loop-i.stream (g.S.Space.now c.args.space.now c.args.file) (g.S.Space.now c.loop-i.space c.args.file) c.args.blocks.now c.at.result.now (i.so t ps listed) listed (c.requires.may t).starts c.at.ensures c.if-block.false in
          moved_more _ c.args.head.now ps c.loop-i.i c.args.stream.now c.loop-i.stream (g.S.Space.now c.args.space.now c.args.file) (g.S.Space.now c.loop-i.space c.args.file) c.args.blocks.now c.at.result.now (i.so t ps listed) listed (c.requires.may t).starts c.at.ensures c.move_record.new.stream (g.S.Space.now c.move_record.new.space c.args.file) x
          (c.in_ok-move_record.ensures.moved t x.r x.has x.sized);
    }

pub returns-clause-moved : goal.returns-clause-moved
returns-clause-moved g c = λ t ps listed. moved_all _ c.args.head.now.first ps c.loop-i.i c.args.stream.now c.loop-i.stream (g.S.Space.now c.args.space.now c.args.file) (g.S.Space.now c.loop-i.space c.args.file) c.args.blocks.now (c.loop-i.invariant.so t ps listed) listed.listed (omega (arith, c.loop-i-test.false, c.len-i-end.ensures))
