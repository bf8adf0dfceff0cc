use Rattle.std.proofs.Common.{◌≡◌, ℕ, refl, subst, arith}
use Rattle.tc_base.proofs.Vnums.{Spelling, spelling_none, spelling_more, spelling_done, spelling_long}
use Rattle.tc_base.proofs.number.spell.Goals as goal

pub loop-i-init : goal.loop-i-init
loop-i-init c = spelling_none c.args.n _ (omega (arith, c.ranges.n)) refl

pub returns-then-n-lt128-clause-long : goal.returns-then-n-lt128-clause-long
returns-then-n-lt128-clause-long c = spelling_long c.loop-i.i c.loop-i.n c.args.n c.loop-i.buffer (omega arith) c.if-n-lt128.true c.loop-i.invariant

pub returns-then-n-lt128-clause-few : goal.returns-then-n-lt128-clause-few
returns-then-n-lt128-clause-few c = let l = spelling_long c.loop-i.i c.loop-i.n c.args.n c.loop-i.buffer (omega arith) c.if-n-lt128.true c.loop-i.invariant in omega (arith, l)

pub returns-then-n-lt128-clause-bytes : goal.returns-then-n-lt128-clause-bytes
returns-then-n-lt128-clause-bytes c = spelling_done c.loop-i.i c.loop-i.n c.args.n c.loop-i.buffer (omega arith) c.if-n-lt128.true c.loop-i.invariant

pub loop-i-preserved : goal.loop-i-preserved
loop-i-preserved c = spelling_more c.loop-i.i c.loop-i.n c.args.n c.loop-i.buffer c.loop-i-test.true (omega arith) c.loop-i.invariant

pub returns-clause-long : goal.returns-clause-long
returns-clause-long c =
    let nine : c.loop-i.i ≡ 9 = omega arith in
    let h : Spelling 9 c.loop-i.n c.args.n c.loop-i.buffer = subst (λ (m : ℕ). Spelling m c.loop-i.n c.args.n c.loop-i.buffer) nine c.loop-i.invariant in
    spelling_long 9 c.loop-i.n c.args.n c.loop-i.buffer (omega arith) (omega (arith, h.below)) h

pub returns-clause-few : goal.returns-clause-few
returns-clause-few c =
    let nine : c.loop-i.i ≡ 9 = omega arith in
    let h : Spelling 9 c.loop-i.n c.args.n c.loop-i.buffer = subst (λ (m : ℕ). Spelling m c.loop-i.n c.args.n c.loop-i.buffer) nine c.loop-i.invariant in
    let l = spelling_long 9 c.loop-i.n c.args.n c.loop-i.buffer (omega arith) (omega (arith, h.below)) h in
    omega (arith, l)

pub returns-clause-bytes : goal.returns-clause-bytes
returns-clause-bytes c =
    let nine : c.loop-i.i ≡ 9 = omega arith in
    let h : Spelling 9 c.loop-i.n c.args.n c.loop-i.buffer = subst (λ (m : ℕ). Spelling m c.loop-i.n c.args.n c.loop-i.buffer) nine c.loop-i.invariant in
    spelling_done 9 c.loop-i.n c.args.n c.loop-i.buffer (omega arith) (omega (arith, h.below)) h
