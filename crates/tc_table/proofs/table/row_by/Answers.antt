use Rattle.std.proofs.Common.{◌∙◌, None, Some, ap, sym}
use Rattle.std.specs.Option.{option_copied}
use Rattle.tc_table.specs.Tables.{row_made}
use Rattle.tc_table.proofs.Spelled.{lacking_none}
use Rattle.tc_table.proofs.table.row_by.Goals as goal

pub returns-in-None : goal.returns-in-None
returns-in-None c =
    ap Some (sym (lacking_none c.args.row)) ∙ (ap (λ m. row_made m None c.args.row) (sym c.in-Cat.is) ∙ ap (λ o. row_made c.args.mode (option_copied o) c.args.row) (sym c.in-None.is))
