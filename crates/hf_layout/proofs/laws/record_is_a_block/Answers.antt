use Rattle.hf_layout.proofs.Standing.{record_is_block}
use Rattle.hf_layout.proofs.laws.record_is_a_block.Goals as goal

pub returns : goal.returns
returns c = record_is_block
