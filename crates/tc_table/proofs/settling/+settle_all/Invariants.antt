use Rattle.std.proofs.Common.{length}
use Rattle.tc_table.proofs.settling.+settle_all.Given as goal

abbrev pub decreases-settle_all : goal.decreases-settle_all
decreases-settle_all g l = length l.sides.now
