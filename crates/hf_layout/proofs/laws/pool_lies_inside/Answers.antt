use Rattle.hf_layout.proofs.Standing.{pool_lies_inside}
use Rattle.hf_layout.proofs.laws.pool_lies_inside.Goals as goal

pub returns : goal.returns
returns c = pool_lies_inside
