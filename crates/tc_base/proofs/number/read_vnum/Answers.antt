use Rattle.std.proofs.Common.{◌∙◌, ap, arith}
use Rattle.tc_base.specs.Vnum.{vnum_at}
use Rattle.tc_base.proofs.Vnums.{IfOk-found, again, short_exactly, second_exactly, wide_exactly, no_front}
use Rattle.tc_base.proofs.number.read_vnum.Goals as goal

pub returns-clause-found : goal.returns-clause-found
returns-clause-found c = IfOk-found c.scan_front.result c.args.bytes.now (λ i. omega (arith, c.type_inv.bytes i)) c.scan_front.ensures.read

pub returns-clause-again : goal.returns-clause-again
returns-clause-again c = λ n rest below e. c.scan_front.ensures.read ∙ ap vnum_at e ∙ again n rest below

pub returns-clause-short : goal.returns-clause-short
returns-clause-short c = rw c.scan_front.ensures.read (short_exactly _)

pub returns-clause-second : goal.returns-clause-second
returns-clause-second c = rw c.scan_front.ensures.read (second_exactly _)

pub returns-clause-wide : goal.returns-clause-wide
returns-clause-wide c = rw c.scan_front.ensures.read (wide_exactly _)

pub returns-clause-no_front : goal.returns-clause-no_front
returns-clause-no_front c = no_front
