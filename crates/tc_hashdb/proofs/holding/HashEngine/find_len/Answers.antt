use Rattle.tc_hashdb.proofs.Kept.{ready_hash}
use Rattle.tc_hashdb.proofs.holding.HashEngine.find_len.Goals as goal

pub get_len-requires : goal.get_len-requires
get_len-requires g c = ready_hash g.S.Space c.args.self.now c.args.space.now c.requires
