use Rattle.std.proofs.Common.{◌≡◌, ◌∙◌, ℕ, ◌-◌, ◌≤◌, get_or, sym, ap, arith}
use Rattle.tc_base.specs.Decimal.{digits, nine}
use Rattle.tc_base.proofs.Decimals.{decimal-nil, in_run, nine_in, nine_past, nine_more, nine_all, ten_more}
use Rattle.tc_base.proofs.decimal.decimals.Goals as goal
use Rattle.tc_base.proofs.decimal.decimals.Goals.{then-i-run, else-i-run}

pub loop-i-init : goal.loop-i-init
loop-i-init c = (sym decimal-nil, omega arith)

pub overflow_sub-digit : goal.overflow_sub-digit
overflow_sub-digit c = (in_run c.args.rest.now c.loop-i.i (omega (arith, c.requires.run, c.if-i-run.true))).0

digit : (c : goal.After-from) → (c.from.result ≡ get_or (nine (digits c.args.rest.now)) c.loop-i.i 0 - 48) × (c.from.result ≤ 9)
digit c = elim c.if-i-run.branch [
  | then-i-run w ↦
      let r = in_run c.args.rest.now c.loop-i.i (omega (arith, c.requires.run, w.if-i-run.true)) in
      let g = nine_in c.args.rest.now c.args.run c.loop-i.i c.requires.run c.requires.within c.loop-i-test.true w.if-i-run.true in
      (c.from.ensures ∙ w.digit-is ∙ ap (λ (b : ℕ). b - 48) (sym g), omega (arith, c.from.ensures, w.digit-is, r.1))
  | else-i-run w ↦
      let g = nine_past c.args.rest.now c.args.run c.loop-i.i c.requires.run c.requires.within c.loop-i-test.true w.if-i-run.false in
      (c.from.ensures ∙ w.digit-is ∙ ap (λ (b : ℕ). b - 48) (sym g), omega (arith, c.from.ensures, w.digit-is))
]

pub loop-i-preserved : goal.loop-i-preserved
loop-i-preserved c =
    let d = digit c in (
      nine_more c.args.rest.now c.loop-i.i c.loop-i.value c.from.result c.loop-i-test.true c.loop-i.invariant.0 d.0,
      ten_more c.loop-i.value c.loop-i.i c.from.result c.loop-i.invariant.1 d.1,
    )

pub returns-clause-value : goal.returns-clause-value
returns-clause-value c = nine_all c.args.rest.now c.loop-i.i c.loop-i.value (omega arith) c.loop-i.invariant.0
