use Rattle.std.proofs.Common.{◌∙◌, ap, sym}
use Rattle.std.specs.Prelude.{IfSome}
use Rattle.tc_tabledb.specs.Reading.{row_bytes}
use Rattle.tc_tabledb.proofs.Read.{sized_some}
use Rattle.tc_tabledb.proofs.reading.size_at.Goals as goal

pub returns-in_default-clause-size : goal.returns-in_default-clause-size
returns-in_default-clause-size g c = λ rows h. ap row_bytes (sym c.in_default.is ∙ c.in_ok-row.ensures.value rows h)

pub returns-clause-size : goal.returns-clause-size
returns-clause-size g c = λ rows h. sized_some c.row_size.result c.in-Some-row_size.size c.in-Some.row c.in-Some-row_size.is c.row_size.ensures ∙ ap row_bytes (sym c.in-Some.is ∙ c.in_ok-row.ensures.value rows h)
