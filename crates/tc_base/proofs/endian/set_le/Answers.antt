use Rattle.std.proofs.Common.{◌≡◌, ℕ, subst, arith}
use Rattle.tc_base.proofs.Endians.{Written, written_none, written_more, written_all, le_number-le_bytes}
use Rattle.tc_base.proofs.endian.set_le.Goals as goal

pub loop-i-init : goal.loop-i-init
loop-i-init c = written_none c.args.at c.args.width c.args.n c.args.bytes.now

pub loop-i-preserved : goal.loop-i-preserved
loop-i-preserved c = written_more c.args.at c.args.width c.loop-i.i c.loop-i.rest c.args.n c.loop-i.bytes c.args.bytes.now c.loop-i-test.true c.requires.inside c.loop-i.invariant

pub returns-clause-after : goal.returns-clause-after
returns-clause-after c =
    let end : c.loop-i.i ≡ c.args.width = omega arith in
    written_all c.args.at c.args.width c.loop-i.rest c.args.n c.loop-i.bytes c.args.bytes.now c.requires.inside (subst (λ (m : ℕ). Written c.args.at c.args.width m c.loop-i.rest c.args.n c.loop-i.bytes c.args.bytes.now) end c.loop-i.invariant)

pub returns-clause-read_back : goal.returns-clause-read_back
returns-clause-read_back c = le_number-le_bytes c.args.width c.args.n c.requires.fits
