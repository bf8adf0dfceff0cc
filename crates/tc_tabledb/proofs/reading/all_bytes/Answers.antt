use Rattle.tc_space.specs.Frames.{reads_then}
use Rattle.tc_space.specs.Stores.{ready_reads}
use Rattle.tc_table.specs.Tables.{Holds}
use Rattle.tc_table.proofs.Holding.{stays_then}
use Rattle.tc_tabledb.proofs.Read.{rows_sized}
use Rattle.tc_tabledb.proofs.reading.all_bytes.Goals as goal

pub bytes_under-requires : goal.bytes_under-requires
bytes_under-requires g c = ready_reads g.R.S.Space (Holds g.R.S.Space g.R.Records g.L.Multi g.D.Multi) c.args.table.now c.keys.new.self c.args.space.now c.keys.new.space c.keys.ensures.reads c.requires

pub returns-clause-size : goal.returns-clause-size
returns-clause-size g c = λ rows h. rows_sized rows c.in_ok-row_keys.row_keys c.as_slice.result.now c.in_ok-total.total c.as_slice.ensures (c.in_ok-row_keys.ensures.value rows h) (c.in_ok-total.ensures.size rows (c.keys.ensures.reads.means rows h))

pub returns-clause-reads : goal.returns-clause-reads
returns-clause-reads g c = record {
  rows = reads_then g.R.S.Space (Holds g.R.S.Space g.R.Records g.L.Multi g.D.Multi) c.args.table.now c.keys.new.self c.bytes_under.new.table c.args.space.now c.keys.new.space c.bytes_under.new.space c.keys.ensures.reads c.bytes_under.ensures.reads.rows;
  stays = stays_then g.R.S.Space g.R.Records g.L.Multi g.D.Multi c.args.table.now c.keys.new.self c.bytes_under.new.table c.keys.ensures.stays c.bytes_under.ensures.reads.stays;
}

pub returns-in_err-total-clause-reads : goal.returns-in_err-total-clause-reads
returns-in_err-total-clause-reads g c = record {
  rows = reads_then g.R.S.Space (Holds g.R.S.Space g.R.Records g.L.Multi g.D.Multi) c.args.table.now c.keys.new.self c.bytes_under.new.table c.args.space.now c.keys.new.space c.bytes_under.new.space c.keys.ensures.reads c.bytes_under.ensures.reads.rows;
  stays = stays_then g.R.S.Space g.R.Records g.L.Multi g.D.Multi c.args.table.now c.keys.new.self c.bytes_under.new.table c.keys.ensures.stays c.bytes_under.ensures.reads.stays;
}
