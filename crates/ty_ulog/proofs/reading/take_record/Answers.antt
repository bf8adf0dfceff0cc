use Rattle.std.proofs.Common.{arith, ap, ◌∙◌, Err}
use Rattle.tc_base.specs.declared.fields.NotWhole.{NotWhole}
use Rattle.tc_base.specs.Reading.{Front}
use Rattle.ty_ulog.specs.declared.record.Record.{Record}
use Rattle.ty_ulog.proofs.Taken.{alone, taken, read_off, partly, badly}
use Rattle.ty_ulog.proofs.reading.take_record.Goals as goal

abbrev failed : NotWhole → Front Record
failed e = Err e

pub overflow_sub-result : goal.overflow_sub-result
overflow_sub-result c = let t = taken _ _ _ (λ i. omega (arith, c.type_inv.bytes i)) c.in-Ok.ensures in omega (arith, t.shorter)

pub returns-in-Ok-clause-grammar : goal.returns-in-Ok-clause-grammar
returns-in-Ok-clause-grammar c = let t = taken _ _ _ (λ i. omega (arith, c.type_inv.bytes i)) c.in-Ok.ensures in (_, t.fits, t.len, (_, t.parts))

pub returns-in-Ok-clause-reading : goal.returns-in-Ok-clause-reading
returns-in-Ok-clause-reading c = read_off _ _ _ (λ i. omega (arith, c.type_inv.bytes i)) c.in-Ok.ensures

pub returns-in-Err-Part-clause-grammar : goal.returns-in-Err-Part-clause-grammar
returns-in-Err-Part-clause-grammar c = partly _ (λ i. omega (arith, c.type_inv.bytes i)) (c.in-Err-Part.ensures ∙ ap failed c.in-Err-Part.field-0-is)

pub returns-in-Err-Bad-clause-grammar : goal.returns-in-Err-Bad-clause-grammar
returns-in-Err-Bad-clause-grammar c = badly _ (c.in-Err-Bad.ensures ∙ ap failed c.in-Err-Bad.field-0-is)

pub returns-in-Ok-clause-alone : goal.returns-in-Ok-clause-alone
returns-in-Ok-clause-alone c = alone _

pub returns-in-Err-Part-clause-alone : goal.returns-in-Err-Part-clause-alone
returns-in-Err-Part-clause-alone c = alone _

pub returns-in-Err-Bad-clause-alone : goal.returns-in-Err-Bad-clause-alone
returns-in-Err-Bad-clause-alone c = alone _
