use Rattle.std.proofs.Common.{arith}
use Rattle.tc_hash.proofs.BytesRead.{summed_bytes}
use Rattle.tc_hash.proofs.KeysRead.{can_list}
use Rattle.tc_hash.proofs.Stored.{from_ok}
use Rattle.tc_hash.proofs.hash.Hash.bytes.Goals as goal

pub sum_bytes-requires : goal.sum_bytes-requires
sum_bytes-requires g c = can_list g.S.Space c.args.self.now c.head_now-head.result c.args.space.now c.head_now-head.ensures (omega arith) (omega arith) c.requires

pub returns-clause-value : goal.returns-clause-value
returns-clause-value g c = from_ok _ c.sum_bytes.ensures.bytes (λ n is. summed_bytes g.S.Space c.args.self.now c.head_now-head.result c.args.space.now c.head_now-head.ensures n is)
