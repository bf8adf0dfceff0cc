use Rattle.std.proofs.Common.{length}
use Rattle.tc_tabledb.proofs.opening.+first_some.Given as goal

abbrev pub decreases-first_some : goal.decreases-first_some
decreases-first_some g l = length l.files.now
