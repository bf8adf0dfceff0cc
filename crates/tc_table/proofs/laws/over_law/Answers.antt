use Rattle.tc_table.proofs.Overs.{law}
use Rattle.tc_table.proofs.laws.over_law.Goals as goal

pub returns : goal.returns
returns g c = law g.R.S.Space g.R.Records g.L.Multi g.D.Multi
