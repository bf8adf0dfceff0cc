use Rattle.std.proofs.Common.{length}
use Rattle.tc_table.proofs.packing.+pack_all.Given as goal

abbrev pub decreases-pack_all : goal.decreases-pack_all
decreases-pack_all g l = length l.sides.now
