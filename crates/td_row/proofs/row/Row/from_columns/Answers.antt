use Rattle.std.proofs.Common.{◌≡◌, ◌∙◌, ℕ, List, Some, false, true, length, refl, sym, ap, subst}
use Rattle.std.proofs.lemmas.List.{take_all}
use Rattle.std.proofs.lemmas.Option.{slice_get_read}
use Rattle.tc_base.specs.declared.seq.Pair.{Pair}
use Rattle.tc_base.specs.Lists.{pair}
use Rattle.tc_model.specs.Rows.{Row, has, is_column, with_column}
use Rattle.tc_model.specs.Well.{IsRow}
use Rattle.td_row.proofs.Lacking.{called, call_done, call_more, call_repeated}
use Rattle.td_row.proofs.Reading.{is_absent, is_there}
use Rattle.td_row.proofs.row.Row.from_columns.Goals as goal

pub loop-column-preserved : goal.loop-column-preserved
loop-column-preserved c =
    let p : Pair = c.column-item.result in
    let same : pair c.as_slice-name.result.now c.as_slice-value.result.now ≡ p = called c.as_slice-name.result.now c.as_slice-value.result.now p c.as_slice-name.ensures c.as_slice-value.ensures in
    let at = slice_get_read c.args.columns.now (length c.args.columns.now) c.loop-column.column-index p refl c.loop-column-test.true c.column-item.is in
    let fit : is_column p ≡ true = ap is_column (sym same) ∙ (sym c.is_column.ensures ∙ c.if-not-is_column.false) in
    let absent : has c.loop-column.row p.key ≡ false = ap (λ (name : List ℕ). has c.loop-column.row name) (sym c.as_slice-name.ensures) ∙ is_absent (has c.loop-column.row c.as_slice-name.result.now) _ c.in_ok-put.ensures.new c.if-not-branch.false in
    let m = call_more c.args.columns.now c.loop-column.row c.put.new.self c.loop-column.column-index p at fit absent c.loop-column.invariant.so c.loop-column.invariant.is_row (c.in_ok-put.ensures.set ∙ ap (λ (q : Pair). with_column c.loop-column.row q) same) in
    record { so = m.0; is_row = m.1 }

pub returns-then-not-branch-clause-bad : goal.returns-then-not-branch-clause-bad
returns-then-not-branch-clause-bad c = λ _.
    let p : Pair = c.column-item.result in
    let at = slice_get_read c.args.columns.now (length c.args.columns.now) c.loop-column.column-index p refl c.loop-column-test.true c.column-item.is in
    let there : has c.loop-column.row p.key ≡ true = ap (λ (name : List ℕ). has c.loop-column.row name) (sym c.as_slice-name.ensures) ∙ is_there (has c.loop-column.row c.as_slice-name.result.now) _ c.in_ok-put.ensures.new c.if-not-branch.true in
    call_repeated c.args.columns.now c.loop-column.column-index p at (ap (λ (r : Row). has r p.key) (sym c.loop-column.invariant.so) ∙ there)

pub returns-clause-row : goal.returns-clause-row
returns-clause-row c =
    let all : c.loop-column.row ≡ c.args.columns.now = c.loop-column.invariant.so ∙ take_all c.loop-column.column-index c.args.columns.now c.loop-column-test.false in
    call_done c.args.columns.now (subst IsRow all c.loop-column.invariant.is_row) ∙ ap (λ (r : Row). Some r) (sym all)
