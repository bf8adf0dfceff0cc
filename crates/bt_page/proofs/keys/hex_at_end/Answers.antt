use Rattle.std.proofs.Common.{arith, ◌≡◌, ℕ, subst}
use Rattle.bt_page.proofs.Hex.{Hexing, hexing_none, hexing_more, hexing_done}
use Rattle.bt_page.proofs.keys.hex_at_end.Goals as goal

pub loop-i-init : goal.loop-i-init
loop-i-init c = hexing_none c.args.n (omega arith)

pub loop-i-preserved : goal.loop-i-preserved
loop-i-preserved c = hexing_more _ _ _ _ _ c.loop-i-test.true c.if-n-lt16.false c.hex_digit-in-loop-i.ensures c.loop-i.invariant

pub returns-then-n-lt16-clause-digits : goal.returns-then-n-lt16-clause-digits
returns-then-n-lt16-clause-digits c = hexing_done _ _ _ _ _ (omega (arith, c.loop-i-test.true)) c.if-n-lt16.true c.hex_digit.ensures c.loop-i.invariant

pub returns-clause-digits : goal.returns-clause-digits
returns-clause-digits c =
    let i : c.loop-i.i ≡ 15 = omega (arith, c.loop-i-test.false, c.loop-i.auto.i-end) in
    let h = subst (λ (i : ℕ). Hexing i c.loop-i.n c.args.n c.loop-i.buffer) i c.loop-i.invariant in
    hexing_done 15 _ _ _ _ (omega arith) h.below c.hex_digit-2.ensures h
