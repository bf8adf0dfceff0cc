use Rattle.tc_hashdb.proofs.Kept.{ready_hash}
use Rattle.tc_hashdb.proofs.holding.HashEngine.find.Goals as goal

pub get-requires : goal.get-requires
get-requires g c = ready_hash g.S.Space c.args.self.now c.args.space.now c.requires
