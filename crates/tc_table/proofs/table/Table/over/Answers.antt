use Rattle.std.proofs.Common.{refl}
use Rattle.tc_table.proofs.Opened.{over_holds}
use Rattle.tc_table.proofs.table.Table.over.Goals as goal

pub returns-clause-holds : goal.returns-clause-holds
returns-clause-holds g c = λ space m h all. over_holds g.R.S.Space g.R.Records g.L.Multi g.D.Multi _ c.args.rows space m refl c.new.ensures.items h all
