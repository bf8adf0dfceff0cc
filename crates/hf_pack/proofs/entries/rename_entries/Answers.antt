use Rattle.std.proofs.Common.{◌≡◌, ◌+◌, ◌*◌, ℕ, drop, ap, arith}
use Rattle.std.proofs.Math.Nat.{mul-add, mul-le-mul_left}
use Rattle.tc_space.specs.Frames.{keeps_then, others_then}
use Rattle.tc_space.specs.Stores.{Only}
use Rattle.hf_tree.specs.Links.{width}
use Rattle.hf_pack.specs.Moving.{renamed_in}
use Rattle.hf_pack.proofs.Numbers.{pushed_more}
use Rattle.hf_pack.proofs.Renamed.{length-entries}
use Rattle.hf_pack.proofs.entries.rename_entries.Goals as goal

pub rename_some-requires-clause-behind : goal.rename_some-requires-clause-behind
rename_some-requires-clause-behind g c = λ t.
    let f : ℕ → ℕ = renamed_in c.args.head.now c.args.targets.now in
    let w : ℕ = width c.args.head.now in
    let done : ℕ = c.loop-done.done in
    let n : ℕ = c.min-count.result in
    let p = (c.loop-done.invariant.pushed t).pushed in
    let at = c.requires.inside t in
    let same : c.width-width.result * done ≡ w * done = ap (λ (k : ℕ). k * done) c.width-width.ensures.value in
    let ends = length-entries f w done (drop 256 (g.S.Space.now c.args.space.now c.args.file)) in
    let most = mul-le-mul_left {m = done + n} {n = c.args.head.now.buckets} w (omega (arith, c.min-count.ensures, c.loop-done.invariant.low, c.loop-done-test.true)) in
    record { behind = omega (arith, p.ends, at.starts, ends, same); inside = omega (arith, p.long, at.inside, same, most, mul-add w done n) }

pub loop-done-preserved : goal.loop-done-preserved
loop-done-preserved g c =
    let i = c.loop-done.invariant in
    let w = c.in_ok-rename_some.ensures.writes in
    let at : 256 + c.width-width.result * c.loop-done.done ≡ 256 + width c.args.head.now * c.loop-done.done = ap (λ (x : ℕ). 256 + x * c.loop-done.done) c.width-width.ensures.value in
    record {
      low = omega (arith, c.min-count.ensures, i.low, c.loop-done-test.true);
      is_sound = w.outcome.ok;
      others = others_then g.S.Space (Only c.args.file) c.args.space.now c.loop-done.space c.rename_some.new.space i.others w.others;
      keeps = keeps_then g.S.Space c.args.space.now c.loop-done.space c.rename_some.new.space i.keeps w.keeps;
      pushed = λ t. pushed_more (renamed_in c.args.head.now c.args.targets.now) (width c.args.head.now) c.args.stream.now c.loop-done.stream c.rename_some.new.stream (g.S.Space.now c.args.space.now c.args.file) (g.S.Space.now c.loop-done.space c.args.file) (g.S.Space.now c.rename_some.new.space c.args.file) c.loop-done.done c.min-count.result (256 + c.width-width.result * c.loop-done.done) (c.requires.inside t).starts at (i.pushed t) (c.in_ok-rename_some.ensures.pushed t);
    }
