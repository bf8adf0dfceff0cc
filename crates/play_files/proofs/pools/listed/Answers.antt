use Rattle.std.proofs.Common.{refl}
use Rattle.play_files.proofs.pools.listed.Goals as goal

pub walk-requires-clause-head : goal.walk-requires-clause-head
walk-requires-clause-head c = ((c.in-Ok.ensures.ok c.in-Ok.head).0 refl).0
