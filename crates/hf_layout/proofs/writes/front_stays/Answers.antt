use Rattle.hf_layout.proofs.Chains.{front_stays}
use Rattle.hf_layout.proofs.writes.front_stays.Goals as goal

pub returns : goal.returns
returns c = front_stays
