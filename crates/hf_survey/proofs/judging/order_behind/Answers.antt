use Rattle.std.proofs.Common.{◌≡◌, ◌∙◌, ◌+◌, take, drop, arith}
use Rattle.std.specs.Ordering.{nat_cmp}
use Rattle.std.specs.Cmp.Lexicographic.{slice_cmp}
use Rattle.hf_survey.proofs.Lists.{if_ok}
use Rattle.hf_survey.proofs.KeyFronts.{order_of_short, order_of_long}
use Rattle.hf_survey.proofs.judging.order_behind.Goals as goal

pub returns-then-a-le16-clause-order : goal.returns-then-a-le16-clause-order
returns-then-a-le16-clause-order g c = λ t. order_of_short c.args.a.now c.args.b.now (g.S.Space.now c.args.space.now c.args.file) (c.requires.first t) (c.requires.second t) c.requires.same.0 c.requires.same.1 c.if-a-le16.true

pub returns-clause-order : goal.returns-clause-order
returns-clause-order g c = if_ok c.order_of_bytes.result (λ o is t.
    let file = g.S.Space.now c.args.space.now c.args.file in
    let first : c.behind_front-first.result ≡ c.args.a.now.place + c.args.a.now.ahead + 16 = c.behind_front-first.ensures (omega (arith, c.len-end.ensures t, (c.requires.first t).inside, c.if-a-le16.false)) in
    let second : c.behind_front-second.result ≡ c.args.b.now.place + c.args.b.now.ahead + 16 = c.behind_front-second.ensures (omega (arith, c.len-end.ensures t, (c.requires.second t).inside, c.if-a-le16.false, c.requires.same.0)) in
    order_of_long c.args.a.now c.args.b.now file (c.requires.first t) (c.requires.second t) c.requires.same.0 o c.requires.same.1 (omega (arith, c.if-a-le16.false))
    (is t ∙ (λ i. slice_cmp nat_cmp (take (c.from.ensures i) (drop (first i) file)) (take (c.from.ensures i) (drop (second i) file))))) c.order_of_bytes.ensures.order
