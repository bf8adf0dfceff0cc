use Rattle.std.proofs.Common.{◌∙◌, ap, arith, Err}
use Rattle.tc_base.specs.declared.fields.NotWhole.{NotWhole}
use Rattle.tc_base.specs.Reading.{Front}
use Rattle.hf_head.specs.Heads.{wide}
use Rattle.hf_block.specs.declared.block.Block.{Block}
use Rattle.hf_block.proofs.Blocking.{found, ok_again, ok_short, ok_bad, part_again, part_short, part_bad, bad_again, bad_short, bad_bad}
use Rattle.hf_block.proofs.reading.read_block.Goals as goal

abbrev failed : NotWhole → Front Block
failed e = Err e

pub returns-in-Ok-clause-found : goal.returns-in-Ok-clause-found
returns-in-Ok-clause-found c = found (wide c.args.large) c.args.bytes.now c.in-Ok.field-0-1.now c.in-Ok.block (λ i. omega (arith, c.type_inv.bytes i)) c.in-Ok.ensures

pub returns-in-Ok-clause-again : goal.returns-in-Ok-clause-again
returns-in-Ok-clause-again c = ok_again (wide c.args.large) c.args.bytes.now c.in-Ok.field-0-1.now c.in-Ok.block c.in-Ok.ensures

pub returns-in-Ok-clause-short : goal.returns-in-Ok-clause-short
returns-in-Ok-clause-short c = ok_short (wide c.args.large) c.args.bytes.now c.in-Ok.field-0-1.now c.in-Ok.block c.in-Ok.ensures

pub returns-in-Ok-clause-bad : goal.returns-in-Ok-clause-bad
returns-in-Ok-clause-bad c = ok_bad (wide c.args.large) c.args.bytes.now c.in-Ok.field-0-1.now c.in-Ok.block (λ i. omega (arith, c.type_inv.bytes i)) c.in-Ok.ensures

pub returns-in-Err-Part-clause-again : goal.returns-in-Err-Part-clause-again
returns-in-Err-Part-clause-again c = part_again (wide c.args.large) c.args.bytes.now (c.in-Err-Part.ensures ∙ ap failed c.in-Err-Part.field-0-is)

pub returns-in-Err-Part-clause-short : goal.returns-in-Err-Part-clause-short
returns-in-Err-Part-clause-short c = part_short (wide c.args.large) c.args.bytes.now (λ i. omega (arith, c.type_inv.bytes i)) (c.in-Err-Part.ensures ∙ ap failed c.in-Err-Part.field-0-is)

pub returns-in-Err-Part-clause-bad : goal.returns-in-Err-Part-clause-bad
returns-in-Err-Part-clause-bad c = part_bad (wide c.args.large) c.args.bytes.now (λ i. omega (arith, c.type_inv.bytes i)) (c.in-Err-Part.ensures ∙ ap failed c.in-Err-Part.field-0-is)

pub returns-in-Err-Bad-clause-again : goal.returns-in-Err-Bad-clause-again
returns-in-Err-Bad-clause-again c = bad_again (wide c.args.large) c.args.bytes.now (c.in-Err-Bad.ensures ∙ ap failed c.in-Err-Bad.field-0-is)

pub returns-in-Err-Bad-clause-short : goal.returns-in-Err-Bad-clause-short
returns-in-Err-Bad-clause-short c = bad_short (wide c.args.large) c.args.bytes.now (c.in-Err-Bad.ensures ∙ ap failed c.in-Err-Bad.field-0-is)

pub returns-in-Err-Bad-clause-bad : goal.returns-in-Err-Bad-clause-bad
returns-in-Err-Bad-clause-bad c = bad_bad (wide c.args.large) c.args.bytes.now (c.in-Err-Bad.ensures ∙ ap failed c.in-Err-Bad.field-0-is)
