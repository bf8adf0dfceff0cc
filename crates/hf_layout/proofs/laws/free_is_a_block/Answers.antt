use Rattle.hf_layout.proofs.Chains.{free_is_block}
use Rattle.hf_layout.proofs.laws.free_is_a_block.Goals as goal

pub returns : goal.returns
returns c = free_is_block
