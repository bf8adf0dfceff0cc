use Rattle.std.proofs.Common.{◌≡◌, ℕ, ap, sym, take, arith, ◌∙◌}
use Rattle.std.proofs.lemmas.Bool.Decides.{nat_tests}
use Rattle.std.proofs.lemmas.List.{take_all}
use Rattle.std.proofs.lemmas.List.Sums.{position_or_len_is}
use Rattle.std.specs.List.{position_or_len}
use Rattle.tk_mgr.specs.Showing.{is_break}
use Rattle.tk_mgr.proofs.informing.first_line.Goals as goal

pub returns-then-b-eq10 : goal.returns-then-b-eq10
returns-then-b-eq10 c =
    let e : position_or_len is_break c.args.bytes.now ≡ c.loop-i.i = position_or_len_is is_break c.args.bytes.now c.loop-i.i 0 (omega arith) c.loop-i.invariant (λ h. grind (arith, nat_tests)) in
    ap (λ (n : ℕ). take n c.args.bytes.now) (sym e)

pub returns : goal.returns
returns c =
    let e : position_or_len is_break c.args.bytes.now ≡ c.loop-i.i = position_or_len_is is_break c.args.bytes.now c.loop-i.i 0 (omega arith) c.loop-i.invariant (λ h. absurd (omega arith)) in
    sym (ap (λ (n : ℕ). take n c.args.bytes.now) e ∙ take_all c.loop-i.i c.args.bytes.now (omega arith))
