use Rattle.std.proofs.Common.{◌*◌, ◌≤◌, refl, arith}
use Rattle.tc_realfs.proofs.Showing.{shown_but}
use Rattle.tc_realfs.proofs.pages.Pages.forget.Goals as goal

pub returns : goal.returns
returns c = λ old new so s.
    let far : c.args.until ≤ c.div_ceil-end.result * 4096 = omega (arith, c.div_ceil-end.ensures) in
    shown_but c.args.from c.args.until _ c.div_ceil-end.result c.loop-number.self old new refl far so (c.loop-number.invariant.shows old s)
    (λ n low high. c.loop-number.invariant.gone n low (omega (arith, high, c.loop-number-test.false)))
