use Rattle.std.proofs.Common.{◌≡◌, ◌∙◌, ◌+◌, ◌<◌, sym, ap, arith}
use Rattle.std.proofs.lemmas.List.{take_all}
use Rattle.tc_base.specs.Endian.{be_number, field}
use Rattle.tc_base.proofs.Endians.{le-nil, fits_more, below_more, field_at, length-field, be_more}
use Rattle.tc_base.proofs.endian.get_be.Goals as goal

pub loop-i-init : goal.loop-i-init
loop-i-init c = (sym le-nil, omega arith)

pub overflow_mul-n : goal.overflow_mul-n
overflow_mul-n c = let f = fits_more c.loop-i.n c.loop-i.i c.args.width 0 c.loop-i.invariant.1 c.loop-i-test.true c.requires.width (omega arith) in omega (arith, f)

pub overflow_add-n : goal.overflow_add-n
overflow_add-n c =
    let byte : c.from.result < 256 = omega (arith, c.from.ensures, c.type_inv.bytes (c.args.at + c.loop-i.i)) in
    let f = fits_more c.loop-i.n c.loop-i.i c.args.width c.from.result c.loop-i.invariant.1 c.loop-i-test.true c.requires.width byte in
    omega (arith, f)

pub loop-i-preserved : goal.loop-i-preserved
loop-i-preserved c =
    let byte : c.from.result < 256 = omega (arith, c.from.ensures, c.type_inv.bytes (c.args.at + c.loop-i.i)) in
    let long = length-field c.args.at c.args.width c.args.bytes.now c.requires.inside in (
      be_more (field c.args.at c.args.width c.args.bytes.now) c.loop-i.i c.loop-i.n c.from.result (omega (arith, long)) c.loop-i.invariant.0 (c.from.ensures ∙ sym (field_at c.args.at c.args.width c.loop-i.i c.args.bytes.now c.loop-i-test.true)),
      below_more c.loop-i.n c.loop-i.i c.from.result c.loop-i.invariant.1 byte,
    )

pub returns-clause-value : goal.returns-clause-value
returns-clause-value c =
    let long = length-field c.args.at c.args.width c.args.bytes.now c.requires.inside in
    c.loop-i.invariant.0 ∙ ap be_number (take_all c.loop-i.i (field c.args.at c.args.width c.args.bytes.now) (omega (arith, long)))

pub returns-clause-fits : goal.returns-clause-fits
returns-clause-fits c = let end : c.loop-i.i ≡ c.args.width = omega arith in rw (← end) c.loop-i.invariant.1
