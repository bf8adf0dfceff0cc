use Rattle.tc_table.proofs.Holding.{got_count}
use Rattle.tc_table.proofs.table.Table.count.Goals as goal

pub returns : goal.returns
returns g c = λ space. got_count g.R.S.Space g.R.Records g.L.Multi g.D.Multi c.args.self.now space c.count.result c.count.ensures
