use Rattle.std.proofs.Common.{◌≡◌, refl}
use Rattle.std.specs.FinMap.{keys}
use Rattle.std.proofs.lemmas.Result.{IfOk-weaker}
use Rattle.tc_model.specs.Contents.{Rows}
use Rattle.tc_table.specs.Tables.{Holds}
use Rattle.tc_table.proofs.Holding.{got_keys, map_stays, rows_ready, still_stays, table_reads}
use Rattle.tc_table.proofs.table.Table.keys.Goals as goal

pub keys-requires : goal.keys-requires
keys-requires g c = rows_ready g.R.S.Space g.R.Records g.L.Multi g.D.Multi c.args.self.now c.args.space.now c.requires

pub returns-clause-value : goal.returns-clause-value
returns-clause-value g c =
    IfOk-weaker _ _ (λ ks. (rows : Rows) → Holds g.R.S.Space g.R.Records g.L.Multi g.D.Multi c.args.self.now c.args.space.now rows → ks ≡ keys rows) (λ ks is. got_keys g.R.S.Space g.R.Records g.L.Multi g.D.Multi c.args.self.now c.args.space.now ks is) c.keys.ensures.value

pub returns-clause-reads : goal.returns-clause-reads
returns-clause-reads g c = table_reads g.R.S.Space g.R.Records g.L.Multi g.D.Multi c.args.self.now _ c.args.space.now c.keys.new.space refl c.keys.ensures.stays.file c.keys.ensures.reads

pub returns-clause-stays : goal.returns-clause-stays
returns-clause-stays g c = still_stays g.R.S.Space g.R.Records g.L.Multi g.D.Multi c.args.self.now _ refl (map_stays g.R.S.Space g.R.Records g.L.Multi g.D.Multi c.args.self.now.rows c.keys.new.self c.keys.ensures.stays)
