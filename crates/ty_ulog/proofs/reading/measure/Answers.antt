use Rattle.std.proofs.Common.{◌+◌, ap, sym, ◌∙◌}
use Rattle.std.specs.Prelude.{Option, Some}
use Rattle.tc_base.proofs.Exact.{same_whole}
use Rattle.ty_wire.specs.Form.{Heads}
use Rattle.ty_ulog.specs.declared.reading.Head.{Head}
use Rattle.ty_ulog.specs.Records.{fields}
use Rattle.ty_ulog.proofs.Exact.{head_is}
use Rattle.ty_ulog.proofs.reading.measure.Goals as goal

abbrev head : Heads fields → Option Head
head h = Some (record { stamp = h.0; before = h.1.0; size = 25 + h.1.1.1.0 })

pub returns-in-Ok-clause-record : goal.returns-in-Ok-clause-record
returns-in-Ok-clause-record c = λ r f e. ap head (same_whole _ _ _ _ (sym c.in-Ok.ensures.read ∙ head_is r c.args.bytes.now f e)).0

pub returns-in-Err-clause-record : goal.returns-in-Err-clause-record
returns-in-Err-clause-record c = λ r f e. let h = head_is r c.args.bytes.now f e in let read = c.in-Err.ensures.read in absurd cc
