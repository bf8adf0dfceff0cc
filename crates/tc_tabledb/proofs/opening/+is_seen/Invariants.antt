use Rattle.std.proofs.Common.{length}
use Rattle.tc_tabledb.proofs.opening.+is_seen.Given as goal

abbrev pub decreases-is_seen : goal.decreases-is_seen
decreases-is_seen g l = length l.sides.now
