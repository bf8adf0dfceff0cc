use Rattle.tc_hashdb.proofs.Kept.{ready_hash}
use Rattle.tc_hashdb.proofs.holding.HashEngine.list.Goals as goal

pub keys-requires : goal.keys-requires
keys-requires g c = ready_hash g.S.Space c.args.self.now c.args.space.now c.requires
