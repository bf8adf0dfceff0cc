use Rattle.std.proofs.Common.{◌∙◌, Err, sym, ap}
use Rattle.tc_table.proofs.Opened.{is_record, no_record, no_row}
use Rattle.tc_table.proofs.opening.row_at.Goals as goal

pub returns-in_default-clause-told : goal.returns-in_default-clause-told
returns-in_default-clause-told g c = λ m h. no_record m c.args.key.now (sym c.in_default.is ∙ c.in_ok-bytes.ensures.value m h)

pub returns-in-Ok-clause-told : goal.returns-in-Ok-clause-told
returns-in-Ok-clause-told g c = λ m h. is_record m c.args.key.now c.in-Some.bytes c.as_slice.result.now c.in-Ok.field-0 (sym c.in-Some.is ∙ c.in_ok-bytes.ensures.value m h) c.as_slice.ensures c.in-Ok.ensures.found

pub returns-in-Err-Bad-clause-told : goal.returns-in-Err-Bad-clause-told
returns-in-Err-Bad-clause-told g c = λ m h. no_row m c.args.key.now c.in-Some.bytes c.as_slice.result.now (sym c.in-Some.is ∙ c.in_ok-bytes.ensures.value m h) c.as_slice.ensures (c.in-Err-Bad.ensures.bad (ap Err c.in-Err-Bad.field-0-is))
