use Rattle.std.proofs.Common.{length}
use Rattle.tc_tabledb.proofs.opening.+open_sides.Given as goal

abbrev pub decreases-open_sides : goal.decreases-open_sides
decreases-open_sides g l = length l.files.now
