use Rattle.std.proofs.Common.{length}
use Rattle.tc_tabledb.proofs.informing.+index_words.Given as goal

abbrev pub decreases-index_words : goal.decreases-index_words
decreases-index_words g l = length l.sides.now
