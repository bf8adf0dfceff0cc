use Rattle.hf_layout.proofs.Chains.{listed_have_width}
use Rattle.hf_layout.proofs.laws.listed_have_width.Goals as goal

pub returns : goal.returns
returns c = listed_have_width
