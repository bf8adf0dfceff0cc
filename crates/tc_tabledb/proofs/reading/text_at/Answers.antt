use Rattle.std.proofs.Common.{◌∙◌, Some, ap, sym}
use Rattle.std.specs.Prelude.{option_map}
use Rattle.tc_model.specs.Rows.{row_text}
use Rattle.tc_tabledb.proofs.reading.text_at.Goals as goal

pub returns-in_default-clause-text : goal.returns-in_default-clause-text
returns-in_default-clause-text g c = λ rows h. ap (option_map row_text) (sym c.in_default.is ∙ c.in_ok-row.ensures.value rows h)

pub returns-clause-text : goal.returns-clause-text
returns-clause-text g c = λ rows h. ap Some c.in_ok-text.ensures ∙ ap (option_map row_text) (sym c.in-Some.is ∙ c.in_ok-row.ensures.value rows h)
