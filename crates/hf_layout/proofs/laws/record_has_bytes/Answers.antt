use Rattle.hf_layout.proofs.Chains.{record_has_bytes}
use Rattle.hf_layout.proofs.laws.record_has_bytes.Goals as goal

pub returns : goal.returns
returns c = record_has_bytes
