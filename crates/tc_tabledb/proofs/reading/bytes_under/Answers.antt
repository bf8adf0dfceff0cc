use Rattle.std.proofs.Common.{◌+◌, ◌<◌, ◌≤◌, ◌∙◌, ap, length, arith}
use Rattle.tc_space.specs.Frames.{keeps_refl, keeps_then, reads_refl, reads_then}
use Rattle.tc_space.specs.Stores.{ready_reads}
use Rattle.tc_table.specs.Tables.{Holds}
use Rattle.tc_table.proofs.Holding.{stays_then, table_stays}
use Rattle.tc_tabledb.proofs.Read.{all_under, none_under, one_under, some_under}
use Rattle.tc_tabledb.proofs.reading.bytes_under.Goals as goal

pub loop-i-init : goal.loop-i-init
loop-i-init g c = record {
  reads = reads_refl g.R.S.Space (Holds g.R.S.Space g.R.Records g.L.Multi g.D.Multi) c.args.table.now c.args.space.now c.requires.sound;
  keeps = keeps_refl g.R.S.Space c.args.space.now;
  ready = c.requires;
  stays = table_stays g.R.S.Space g.R.Records g.L.Multi g.D.Multi c.args.table.now;
  so_far = λ rows h. none_under rows;
}

pub size_at-requires : goal.size_at-requires
size_at-requires g c = c.loop-i.invariant.ready

pub loop-i-preserved : goal.loop-i-preserved
loop-i-preserved g c =
    let less : c.loop-i.i < length c.args.row_keys.now = omega arith in
    record {
      reads = reads_then g.R.S.Space (Holds g.R.S.Space g.R.Records g.L.Multi g.D.Multi) c.args.table.now c.loop-i.table c.size_at.new.table c.args.space.now c.loop-i.space c.size_at.new.space c.loop-i.invariant.reads c.size_at.ensures.reads.rows;
      keeps = keeps_then g.R.S.Space c.args.space.now c.loop-i.space c.size_at.new.space c.loop-i.invariant.keeps c.size_at.ensures.keeps;
      ready = ready_reads g.R.S.Space (Holds g.R.S.Space g.R.Records g.L.Multi g.D.Multi) c.loop-i.table c.size_at.new.table c.loop-i.space c.size_at.new.space c.size_at.ensures.reads.rows c.loop-i.invariant.ready;
      stays = stays_then g.R.S.Space g.R.Records g.L.Multi g.D.Multi c.args.table.now c.loop-i.table c.size_at.new.table c.loop-i.invariant.stays c.size_at.ensures.reads.stays;
      so_far = λ rows h. one_under rows c.args.row_keys.now c.loop-i.i c.loop-i.total c.in-Some.sum c.in_ok-size.size c.index-row_keys-i.result c.as_slice-key.result.now less c.index-row_keys-i.is c.as_slice-key.ensures (c.loop-i.invariant.so_far rows h)
          (some_under c.plus_row.result c.in-Some.sum (c.loop-i.total + length c.as_slice-key.result.now + c.in_ok-size.size) c.in-Some.is c.plus_row.ensures)
          (c.in_ok-size.ensures.size rows (c.loop-i.invariant.reads.means rows h));
    }

pub returns-clause-size : goal.returns-clause-size
returns-clause-size g c = λ rows h.
    let all : length c.args.row_keys.now ≤ c.loop-i.i = omega arith in
    all_under rows c.args.row_keys.now c.loop-i.i c.loop-i.total all (c.loop-i.invariant.so_far rows h)

pub returns-clause-reads : goal.returns-clause-reads
returns-clause-reads g c = record { rows = c.loop-i.invariant.reads; stays = c.loop-i.invariant.stays }

pub returns-in_err-size-clause-reads : goal.returns-in_err-size-clause-reads
returns-in_err-size-clause-reads g c = record {
  rows = reads_then g.R.S.Space (Holds g.R.S.Space g.R.Records g.L.Multi g.D.Multi) c.args.table.now c.loop-i.table c.size_at.new.table c.args.space.now c.loop-i.space c.size_at.new.space c.loop-i.invariant.reads c.size_at.ensures.reads.rows;
  stays = stays_then g.R.S.Space g.R.Records g.L.Multi g.D.Multi c.args.table.now c.loop-i.table c.size_at.new.table c.loop-i.invariant.stays c.size_at.ensures.reads.stays;
}

pub returns-in_default-clause-reads : goal.returns-in_default-clause-reads
returns-in_default-clause-reads g c = record {
  rows = reads_then g.R.S.Space (Holds g.R.S.Space g.R.Records g.L.Multi g.D.Multi) c.args.table.now c.loop-i.table c.size_at.new.table c.args.space.now c.loop-i.space c.size_at.new.space c.loop-i.invariant.reads c.size_at.ensures.reads.rows;
  stays = stays_then g.R.S.Space g.R.Records g.L.Multi g.D.Multi c.args.table.now c.loop-i.table c.size_at.new.table c.loop-i.invariant.stays c.size_at.ensures.reads.stays;
}
