use Rattle.hf_layout.proofs.Chains.{sets_left, sets_right}
use Rattle.hf_layout.proofs.writes.chains_are_set.Goals as goal

pub returns-clause-left : goal.returns-clause-left
returns-clause-left c = sets_left

pub returns-clause-right : goal.returns-clause-right
returns-clause-right c = sets_right
