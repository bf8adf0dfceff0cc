use Rattle.hf_layout.proofs.Records.{fills_block}
use Rattle.hf_layout.proofs.writes.record_fills_a_block.Goals as goal

pub returns : goal.returns
returns c = fills_block
