use Rattle.hf_layout.proofs.Records.{stands_behind}
use Rattle.hf_layout.proofs.writes.record_stands_behind.Goals as goal

pub returns : goal.returns
returns c = stands_behind
