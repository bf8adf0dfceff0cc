use Rattle.hf_layout.proofs.Standing.{block_stands}
use Rattle.hf_layout.proofs.laws.block_stands.Goals as goal

pub returns : goal.returns
returns c = block_stands
