use Rattle.std.proofs.Common.{length}
use Rattle.tc_tabledb.proofs.indexing.+is_taken.Given as goal

abbrev pub decreases-is_taken : goal.decreases-is_taken
decreases-is_taken g l = length l.sides.now
