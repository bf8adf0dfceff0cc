use Rattle.tc_fixed.proofs.Tallied.{counts_empty}
use Rattle.tc_fixed.proofs.tally.Tally.none.Goals as goal

pub returns-clause-counts : goal.returns-clause-counts
returns-clause-counts c = counts_empty
