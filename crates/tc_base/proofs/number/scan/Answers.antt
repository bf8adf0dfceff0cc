use Rattle.std.proofs.Common.{◌≡◌, ◌∙◌, ℕ, ◌+◌, ◌*◌, get_or, refl, sym, ap, subst, arith}
use Rattle.tc_base.proofs.Vnums.{Scanned, scanned_more, scanned_short, scanned_wide, scanned_end}
use Rattle.tc_base.proofs.number.scan.Goals as goal

pub returns-then-i-bytes-clause-read : goal.returns-then-i-bytes-clause-read
returns-then-i-bytes-clause-read c = scanned_short c.loop-i.i c.loop-i.low c.loop-i.scale c.args.bytes.now (omega arith) c.if-i-bytes.true c.loop-i.invariant

pub returns-then-b-lt128-clause-read : goal.returns-then-b-lt128-clause-read
returns-then-b-lt128-clause-read c = c.end.ensures.read ∙ scanned_end c.loop-i.i c.loop-i.low c.loop-i.scale (get_or c.args.bytes.now c.loop-i.i 0) c.args.bytes.now (omega arith) (omega arith) refl c.if-b-lt128.true c.loop-i.invariant

pub loop-i-preserved : goal.loop-i-preserved
loop-i-preserved c =
    subst (λ (m : ℕ). Scanned (c.loop-i.i + 1) (c.loop-i.low + m * c.loop-i.scale) (c.loop-i.scale * 128) c.args.bytes.now) (sym c.from.ensures)
    (scanned_more c.loop-i.i c.loop-i.low c.loop-i.scale (get_or c.args.bytes.now c.loop-i.i 0) c.args.bytes.now c.loop-i-test.true (omega arith) refl c.if-b-lt128.false c.loop-i.invariant)

pub returns-then-bytes-eq9-clause-read : goal.returns-then-bytes-eq9-clause-read
returns-then-bytes-eq9-clause-read c = scanned_short c.loop-i.i c.loop-i.low c.loop-i.scale c.args.bytes.now (omega arith) (omega arith) c.loop-i.invariant

pub returns-then-bytes-ge128-clause-read : goal.returns-then-bytes-ge128-clause-read
returns-then-bytes-ge128-clause-read c =
    let nine : c.loop-i.i ≡ 9 = omega arith in
    scanned_wide c.loop-i.i c.loop-i.low c.loop-i.scale (get_or c.args.bytes.now 9 0) c.args.bytes.now nine (omega arith) (ap (λ (m : ℕ). get_or c.args.bytes.now m 0) (sym nine)) (omega arith) c.loop-i.invariant

pub returns-clause-read : goal.returns-clause-read
returns-clause-read c =
    let nine : c.loop-i.i ≡ 9 = omega arith in
    c.end-2.ensures.read ∙ scanned_end 9 c.loop-i.low c.loop-i.scale (get_or c.args.bytes.now 9 0) c.args.bytes.now (omega arith) (omega arith) refl (omega arith) (subst (λ (m : ℕ). Scanned m c.loop-i.low c.loop-i.scale c.args.bytes.now) nine c.loop-i.invariant)
