use Rattle.tc_hashdb.proofs.Kept.{ready_hash}
use Rattle.tc_hashdb.proofs.holding.HashEngine.count_bytes.Goals as goal

pub bytes-requires : goal.bytes-requires
bytes-requires g c = ready_hash g.S.Space c.args.self.now c.args.space.now c.requires
