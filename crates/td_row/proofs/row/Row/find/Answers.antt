use Rattle.std.proofs.Common.{◌∙◌, ap}
use Rattle.tc_model.specs.Rows.{Row, column}
use Rattle.td_row.proofs.Entries.{shown_get}
use Rattle.td_row.proofs.row.Row.find.Goals as goal

pub returns-clause-value : goal.returns-clause-value
returns-clause-value c = c.get.ensures.value ∙ shown_get (λ k. k.items) c.args.name.now c.self.inside.columns.entries ∙ ap (λ (r : Row). column r c.args.name.now) c.self.view_is
