use Rattle.std.proofs.Common.{refl}
use Rattle.td_index.proofs.Keeping.{counts_stay}
use Rattle.tc_table.proofs.Holding.{rows_ready, still_stays, table_reads}
use Rattle.tc_table.proofs.table.Table.bytes_at.Goals as goal

pub get-requires : goal.get-requires
get-requires g c = rows_ready g.R.S.Space g.R.Records g.L.Multi g.D.Multi c.args.self.now c.args.space.now c.requires

pub returns-clause-reads : goal.returns-clause-reads
returns-clause-reads g c = table_reads g.R.S.Space g.R.Records g.L.Multi g.D.Multi c.args.self.now _ c.args.space.now c.get.new.space refl c.get.ensures.counts.file c.get.ensures.reads

pub returns-clause-stays : goal.returns-clause-stays
returns-clause-stays g c = still_stays g.R.S.Space g.R.Records g.L.Multi g.D.Multi c.args.self.now _ refl (counts_stay g.R.Records c.args.self.now.rows c.get.new.self c.get.ensures.counts)
