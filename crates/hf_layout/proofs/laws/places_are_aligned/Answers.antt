use Rattle.hf_layout.proofs.Chains.{places_are_aligned}
use Rattle.hf_layout.proofs.laws.places_are_aligned.Goals as goal

pub returns : goal.returns
returns c = places_are_aligned
