use Rattle.std.proofs.Common.{length}
use Rattle.tc_tabledb.proofs.indexing.+kind_at.Given as goal

abbrev pub decreases-kind_at : goal.decreases-kind_at
decreases-kind_at g l = length l.sides.now
