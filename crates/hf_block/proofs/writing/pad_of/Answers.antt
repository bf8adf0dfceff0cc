use Rattle.hf_block.proofs.Padding.{padding_is}
use Rattle.hf_block.proofs.writing.pad_of.Goals as goal

pub returns-clause-value : goal.returns-clause-value
returns-clause-value c = padding_is c.args.head c.args.key c.args.value c.args.unit
