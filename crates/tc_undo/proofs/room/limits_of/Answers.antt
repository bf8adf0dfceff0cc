use Rattle.std.proofs.Common.{◌≡◌, ◌<◌, ◌∙◌, arith, max, length, length-set, get_or}
use Rattle.ud_state.proofs.Replaying.{short_at}
use Rattle.tc_undo.proofs.Needs.{short_set, each_more}
use Rattle.tc_undo.proofs.room.limits_of.Goals as goal

pub loop-i-preserved : goal.loop-i-preserved
loop-i-preserved c =
    let i = c.loop-i.i in
    let low : i < length c.loop-i.limits = omega (arith, c.loop-i.invariant.long, c.loop-i-test.true) in
    let n : c.max.result ≡ max c.args.limit (get_or c.args.lens.now i 0) = omega (arith, c.max.ensures) in
    record {
      each = λ k below. each_more c.loop-i.limits c.args.lens.now i k c.max.result c.args.limit low n c.loop-i.invariant.each below;
      short = short_set c.loop-i.limits i c.max.result c.loop-i.invariant.short (omega (arith, n, c.requires.limit, short_at c.args.lens.now i c.requires.short));
      long = length-set c.loop-i.limits i c.max.result ∙ c.loop-i.invariant.long;
    }
