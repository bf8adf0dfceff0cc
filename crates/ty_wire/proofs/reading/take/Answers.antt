use Rattle.std.proofs.Common.{arith, ap, ◌∙◌, List, ℕ, Ok, Err}
use Rattle.tc_base.specs.declared.request.Request.{Request}
use Rattle.tc_base.specs.declared.fields.NotWhole.{NotWhole}
use Rattle.tc_base.specs.Reading.{Front}
use Rattle.ty_wire.specs.Parsed.{parsed}
use Rattle.ty_wire.proofs.Answered.{taken, partly, badly, alone}
use Rattle.ty_wire.proofs.reading.take.Goals as goal

abbrev failed : NotWhole → Front Request
failed e = Err e

abbrev read : Request → List ℕ → Front Request
read r rest = Ok (r, rest)

pub overflow_sub-result : goal.overflow_sub-result
overflow_sub-result c = let t = taken _ _ _ (λ i. omega (arith, c.type_inv.bytes i)) c.in-Ok.ensures.read in omega (arith, t.shorter)

pub returns-in-Ok-clause-grammar : goal.returns-in-Ok-clause-grammar
returns-in-Ok-clause-grammar c = let t = taken _ _ _ (λ i. omega (arith, c.type_inv.bytes i)) c.in-Ok.ensures.read in (_, t.fits, t.len, (_, t.parts))

pub returns-in-Ok-clause-reading : goal.returns-in-Ok-clause-reading
returns-in-Ok-clause-reading c = let t = taken _ _ _ (λ i. omega (arith, c.type_inv.bytes i)) c.in-Ok.ensures.read in (parsed c.in-Ok.field-0-0, omega arith, c.in-Ok.ensures.read ∙ ap (read (parsed c.in-Ok.field-0-0)) t.rest_is)

pub returns-in-Err-Part-clause-grammar : goal.returns-in-Err-Part-clause-grammar
returns-in-Err-Part-clause-grammar c = partly _ (λ i. omega (arith, c.type_inv.bytes i)) (c.in-Err-Part.ensures.read ∙ ap failed c.in-Err-Part.field-0-is)

pub returns-in-Err-Bad-clause-grammar : goal.returns-in-Err-Bad-clause-grammar
returns-in-Err-Bad-clause-grammar c = badly _ (c.in-Err-Bad.ensures.read ∙ ap failed c.in-Err-Bad.field-0-is)

pub returns-in-Ok-clause-alone : goal.returns-in-Ok-clause-alone
returns-in-Ok-clause-alone c = alone c.args.bytes.now

pub returns-in-Err-Part-clause-alone : goal.returns-in-Err-Part-clause-alone
returns-in-Err-Part-clause-alone c = alone c.args.bytes.now

pub returns-in-Err-Bad-clause-alone : goal.returns-in-Err-Bad-clause-alone
returns-in-Err-Bad-clause-alone c = alone c.args.bytes.now
