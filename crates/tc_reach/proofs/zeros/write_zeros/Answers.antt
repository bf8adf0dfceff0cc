use Rattle.std.proofs.Common.{◌-◌, length, take, inl, inr, refl, arith}
use Rattle.tc_space.specs.Frames.{only_writes_refl, only_writes_then}
use Rattle.tc_reach.proofs.Zeroed.{zeros_front, zeros_none, zeros_then, zeros_inside}
use Rattle.tc_reach.proofs.zeros.write_zeros.Goals as goal

pub loop-at-init : goal.loop-at-init
loop-at-init g c = record {
  on = omega arith;
  high = inr refl;
  sound = c.requires.sound;
  writes = only_writes_refl g.S.Space c.args.space.now;
  wrote = λ t. zeros_none g.S.Space.now c.args.file c.args.space.now c.args.from (c.args.from - c.args.from) (omega arith);
}

pub write_at-requires-clause-reaches : goal.write_at-requires-clause-reaches
write_at-requires-clause-reaches g c = record {
  file = c.requires.reaches.file;
  inside = λ t. zeros_inside g.S.Space.now c.args.file c.args.space.now c.loop-at.space c.args.from c.loop-at.at (c.loop-at.invariant.wrote t) c.loop-at.invariant.on (c.requires.reaches.inside t);
}

pub loop-at-preserved : goal.loop-at-preserved
loop-at-preserved g c =
    let n = c.min-n.result in
    let v = c.loop-at.invariant in
    record {
      on = omega (arith, v.on);
      high = inl (omega (arith, c.min-n.ensures, c.loop-at-test.true));
      sound = c.in_ok-write_at.ensures.outcome.ok;
      writes = only_writes_then g.S.Space c.args.space.now c.loop-at.space c.write_at.new.space v.writes c.in_ok-write_at.ensures.writes;
      wrote = λ t. zeros_then g.S.Space.now c.args.file c.args.space.now c.loop-at.space c.write_at.new.space c.args.from c.loop-at.at n (take n c.args.zeros.now)
          (v.wrote t) (c.in_ok-write_at.ensures.wrote t) (zeros_front n (length c.args.zeros.now) c.args.zeros.now c.requires.zeros.are (omega (arith, c.min-n.ensures))) v.on (c.requires.reaches.inside t);
    }
