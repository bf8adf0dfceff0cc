use Rattle.hf_layout.proofs.Records.{fills_part}
use Rattle.hf_layout.proofs.writes.record_fills_a_front.Goals as goal

pub returns : goal.returns
returns c = fills_part
