use Rattle.tc_table.proofs.Listing.{law}
use Rattle.tc_table.proofs.laws.index_law.Goals as goal

pub returns : goal.returns
returns c = law
