use Rattle.hf_layout.proofs.Records.{lent_is_block}
use Rattle.hf_layout.proofs.laws.lent_is_a_block.Goals as goal

pub returns : goal.returns
returns c = lent_is_block
