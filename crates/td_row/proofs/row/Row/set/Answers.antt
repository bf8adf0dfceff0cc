use Rattle.std.proofs.Common.{◌≡◌, ◌∙◌, sym, ap, subst}
use Rattle.tc_base.specs.Lists.{pair}
use Rattle.std.specs.Prelude.{is_some}
use Rattle.tc_model.specs.Rows.{Row, column, with_column}
use Rattle.tc_model.specs.Well.{IsRow}
use Rattle.td_row.proofs.Columns.{row_with}
use Rattle.td_row.proofs.Entries.{shown, shown_get, shown_insert, none_is}
use Rattle.td_row.proofs.row.Row.set.Goals as goal

pub invariant_of-self-2 : goal.invariant_of-self-2
invariant_of-self-2 c =
    let row : Row = shown (λ k. k.items) c.self.inside.columns.entries in
    let is : shown (λ k. k.items) c.insert.new.self.entries ≡ with_column row (pair c.args.name.items c.args.value) = ap (λ es. shown (λ k. k.items) es) c.in-Ok.ensures.entries ∙ shown_insert (λ k. k.items) c.self.inside.columns.entries c.args.name c.args.value c.self.invariant.distinct in
    subst IsRow (sym is) (row_with row (pair c.args.name.items c.args.value) c.self.invariant c.requires)

pub returns-clause-set : goal.returns-clause-set
returns-clause-set c =
    ap (λ es. shown (λ k. k.items) es) c.in-Ok.ensures.entries ∙ shown_insert (λ k. k.items) c.self.inside.columns.entries c.args.name c.args.value c.self.invariant.distinct
    ∙ ap (λ (r : Row). with_column r (pair c.args.name.items c.args.value)) c.self.view_is

pub returns-clause-new : goal.returns-clause-new
returns-clause-new c =
    let is = c.in-Ok.ensures.old ∙ shown_get (λ k. k.items) c.args.name.items c.self.inside.columns.entries ∙ ap (λ (r : Row). column r c.args.name.items) c.self.view_is in
    none_is (column c.args.self.now c.args.name.items) c.is_none.result (ap is_some (sym is) ∙ c.is_none.ensures)
