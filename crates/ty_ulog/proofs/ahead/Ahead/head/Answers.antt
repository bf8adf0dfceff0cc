use Rattle.std.proofs.Common.{◌∙◌, ℕ, List, length, ap, arith, length-take}
use Rattle.ty_ulog.proofs.Pieces.{head_held, none_long, none_short}
use Rattle.ty_ulog.proofs.ahead.Ahead.head.Goals as goal

pub returns-then-left-lt25-clause-heads : goal.returns-then-left-lt25-clause-heads
returns-then-left-lt25-clause-heads g c = λ t. none_short _ _ _ (c.requires.ahead t).end_is (omega (arith, c.if-left-lt25.true))

pub returns-in_default-clause-heads : goal.returns-in_default-clause-heads
returns-in_default-clause-heads g c = λ t r rest f parts.
    let goes = c.in_ok-hold_head.ensures.goes in
    c.in_default.ensures.record r f (c.first_bytes.ensures ∙ head_held c.args.self.now _ _ _ goes.at_is (goes.ahead t) c.in_ok-hold_head.ensures.held c.as_slice.ensures r rest parts)

pub returns-then-head-left-clause-heads : goal.returns-then-head-left-clause-heads
returns-then-head-left-clause-heads g c = λ t.
    let goes = c.in_ok-hold_head.ensures.goes in
    none_long _ c.args.self.now.at _ c.in-Some.head (c.requires.ahead t).end_is
    (λ r rest f parts. c.in-Some.ensures.record r f (c.first_bytes.ensures ∙ head_held c.args.self.now _ _ _ goes.at_is (goes.ahead t) c.in_ok-hold_head.ensures.held c.as_slice.ensures r rest parts))
    (omega (arith, goes.at_is, goes.end_is))

pub returns-clause-heads : goal.returns-clause-heads
returns-clause-heads g c = λ t r rest f parts.
    let goes = c.in_ok-hold_head.ensures.goes in
    c.in-Some.ensures.record r f (c.first_bytes.ensures ∙ head_held c.args.self.now _ _ _ goes.at_is (goes.ahead t) c.in_ok-hold_head.ensures.held c.as_slice.ensures r rest parts)

pub first_bytes-requires : goal.first_bytes-requires
first_bytes-requires g c = omega (arith, ap (λ (l : List ℕ). length l) c.as_slice.ensures, c.in_ok-hold_head.ensures.held)

pub measure-requires : goal.measure-requires
measure-requires g c = omega (arith, length-take 25 c.as_slice.result.now, ap (λ (l : List ℕ). length l) c.as_slice.ensures, ap (λ (l : List ℕ). length l) c.first_bytes.ensures, c.in_ok-hold_head.ensures.held)
