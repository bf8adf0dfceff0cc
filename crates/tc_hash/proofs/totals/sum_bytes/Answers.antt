use Rattle.tc_hash.proofs.BytesRead.{bytes_blocks}
use Rattle.tc_hash.proofs.Stored.{from_ok}
use Rattle.tc_hash.proofs.totals.sum_bytes.Goals as goal

pub read_bytes-requires-clause-listed : goal.read_bytes-requires-clause-listed
read_bytes-requires-clause-listed g c = λ t. let w = c.requires.filled t in record { pieces = w.0; is = c.in_ok-listed.ensures.listed t w.0 w.1 }

pub returns-clause-bytes : goal.returns-clause-bytes
returns-clause-bytes g c = from_ok _ c.read_bytes.ensures.bytes (λ n are. bytes_blocks g.S.Space c.args.head.now c.args.file c.args.space.now c.list_blocks.new.space c.in_ok-listed.listed n c.in_ok-listed.ensures.listed are)
