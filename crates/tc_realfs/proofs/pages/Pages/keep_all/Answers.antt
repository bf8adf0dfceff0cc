use Rattle.std.proofs.Common.{◌≡◌, ◌∙◌, ◌+◌, ◌-◌, ◌*◌, ◌/◌, ◌%◌, ◌≤◌, ℕ, length, take, drop, ap, arith}
use Rattle.tc_realfs.proofs.Showing.{piece_of}
use Rattle.tc_realfs.proofs.pages.Pages.keep_all.Goals as goal

pub loop-done-preserved : goal.loop-done-preserved
loop-done-preserved c =
    let done = c.loop-done.done in
    let bytes = c.args.bytes.now in
    let long : ℕ = done + c.min-here.result - done in
    let start : (c.args.at + done) % 4096 ≡ 0 = c.loop-done.invariant.aligned c.loop-done-test.true in
    let place : c.args.at + done ≡ (c.args.at + done) / 4096 * 4096 = omega (arith, start) in
    let inside : done + long ≤ length bytes = omega (arith, c.min-here.ensures, c.loop-done-test.true) in
    record {
      aligned = λ more. omega (arith, start, more, c.min-here.ensures);
      shows = λ file read s. c.keep_more.ensures file (piece_of c.args.at done long bytes file inside read ∙ ap (λ (n : ℕ). take (length (take long (drop done bytes))) (drop n file)) place) (c.loop-done.invariant.shows file read s);
    }
