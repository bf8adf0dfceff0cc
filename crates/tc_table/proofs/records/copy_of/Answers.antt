use Rattle.std.proofs.Common.{◌∙◌, ap}
use Rattle.tc_model.specs.Rows.{Row, with_lacking}
use Rattle.tc_table.proofs.Spelled.{lacking_none}
use Rattle.tc_table.proofs.records.copy_of.Goals as goal

pub returns : goal.returns
returns c = c.in_ok-copied.ensures ∙ (ap (λ (q : Row). with_lacking q c.args.row.now) c.new.ensures ∙ lacking_none c.args.row.now)
