use Rattle.hf_head.specs.Heads.{wide}
use Rattle.hf_block.proofs.Padding.{record_aligned, record_long}
use Rattle.hf_block.proofs.writing.write_rec.Goals as goal

pub returns-in-Err-clause-aligned : goal.returns-in-Err-clause-aligned
returns-in-Err-clause-aligned c = record_aligned (wide c.args.large) c.args.hash c.args.left c.args.right c.args.key.now c.args.value.now c.args.unit c.requires.some

pub returns-clause-aligned : goal.returns-clause-aligned
returns-clause-aligned c = record_aligned (wide c.args.large) c.args.hash c.args.left c.args.right c.args.key.now c.args.value.now c.args.unit c.requires.some

pub returns-in-Err-clause-len : goal.returns-in-Err-clause-len
returns-in-Err-clause-len c = record_long (wide c.args.large) c.args.hash c.args.left c.args.right c.args.key.now c.args.value.now c.args.unit

pub returns-clause-len : goal.returns-clause-len
returns-clause-len c = record_long (wide c.args.large) c.args.hash c.args.left c.args.right c.args.key.now c.args.value.now c.args.unit
