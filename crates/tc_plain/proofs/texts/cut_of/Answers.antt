use Rattle.std.proofs.Common.{◌∙◌, sym, arith, length}
use Rattle.std.proofs.lemmas.List.Sums.{position_or_len_is}
use Rattle.tc_plain.specs.Splits.{cuts}
use Rattle.tc_plain.proofs.texts.cut_of.Goals as goal

pub returns-then-is_cut : goal.returns-then-is_cut
returns-then-is_cut c =
    (sym (position_or_len_is (cuts c.args.blank) c.args.text.now c.loop-i.i 0 (omega (arith, c.loop-i-test.true)) c.loop-i.invariant (λ _. sym c.is_cut.ensures ∙ c.if-is_cut.true)), c.loop-i-test.true)

pub returns : goal.returns
returns c = position_or_len_is (cuts c.args.blank) c.args.text.now (length c.args.text.now) 0 (omega arith) (λ k h. c.loop-i.invariant k (omega (arith, h, c.loop-i-test.false))) (λ h. absurd (omega (arith, h)))
