use Rattle.std.proofs.Common.{length}
use Rattle.tc_table.proofs.planning.+keys_at.Given as goal

abbrev pub decreases-keys_at : goal.decreases-keys_at
decreases-keys_at g l = length l.sides.now
