use Rattle.std.proofs.Common.{◌<◌, ◌≤◌, ◌^◌, length, refl, arith}
use Rattle.tc_space.specs.Frames.{keeps_refl, keeps_then, reads_refl, reads_then}
use Rattle.tc_space.specs.Stores.{ready_reads}
use Rattle.tc_table.specs.Tables.{Holds}
use Rattle.tc_table.proofs.Counted.{all_counted, one_counted}
use Rattle.tc_table.proofs.Gathering.{ticks_one, ticks_refl}
use Rattle.tc_table.proofs.Holding.{stays_then, table_stays}
use Rattle.tc_table.proofs.table.Table.tally.Goals as goal

pub loop-i-init : goal.loop-i-init
loop-i-init g c = record {
  reads = reads_refl g.R.S.Space (Holds g.R.S.Space g.R.Records g.L.Multi g.D.Multi) c.args.self.now c.args.space.now c.requires.sound;
  keeps = keeps_refl g.R.S.Space c.args.space.now;
  ready = c.requires;
  stays = table_stays g.R.S.Space g.R.Records g.L.Multi g.D.Multi c.args.self.now;
  few = omega arith;
  most = omega arith;
  steps = ticks_refl (g.R.Records.gets c.args.self.now.rows) c.args.steps.now;
  within = omega arith;
  so_far = λ rows h. refl;
}

pub get-requires : goal.get-requires
get-requires g c = c.loop-i.invariant.ready

pub loop-i-preserved : goal.loop-i-preserved
loop-i-preserved g c =
    let less : c.loop-i.i < length c.args.row_keys.now = omega arith in
    let small : c.loop-i.steps < 2 ^ 64 = omega (arith, c.count-counted.type_inv, c.count-counted.ensures) in
    record {
      reads = reads_then g.R.S.Space (Holds g.R.S.Space g.R.Records g.L.Multi g.D.Multi) c.args.self.now c.loop-i.self c.get.new.self c.args.space.now c.loop-i.space c.get.new.space c.loop-i.invariant.reads c.get.ensures.reads;
      keeps = keeps_then g.R.S.Space c.args.space.now c.loop-i.space c.get.new.space c.loop-i.invariant.keeps c.get.ensures.keeps;
      ready = ready_reads g.R.S.Space (Holds g.R.S.Space g.R.Records g.L.Multi g.D.Multi) c.loop-i.self c.get.new.self c.loop-i.space c.get.new.space c.get.ensures.reads c.loop-i.invariant.ready;
      stays = stays_then g.R.S.Space g.R.Records g.L.Multi g.D.Multi c.args.self.now c.loop-i.self c.get.new.self c.loop-i.invariant.stays c.get.ensures.stays;
      few = omega (arith, c.loop-i.invariant.few, c.get.ensures.counted);
      most = omega (arith, c.loop-i.invariant.most, c.tick.ensures);
      steps = ticks_one (g.R.Records.gets c.args.self.now.rows) (g.R.Records.gets c.loop-i.self.rows) (g.R.Records.gets c.get.new.self.rows) c.args.steps.now c.loop-i.steps c.tick.new.self small c.loop-i.invariant.steps c.tick.ensures c.get.ensures.counted;
      within = omega (arith, c.loop-i.invariant.within, c.count_one-number.ensures.few);
      so_far = λ rows h. one_counted c.args.q.now rows c.args.row_keys.now c.loop-i.i c.index-row_keys-i.result c.as_slice-key.result.now c.in_ok-row.row c.loop-i.number c.count_one-number.result less c.index-row_keys-i.is c.as_slice-key.ensures
          (c.in_ok-row.ensures.value rows (c.loop-i.invariant.reads.means rows h)) (c.loop-i.invariant.so_far rows h) c.count_one-number.ensures.found;
    }

pub returns-clause-found : goal.returns-clause-found
returns-clause-found g c = λ rows h.
    let all : length c.args.row_keys.now ≤ c.loop-i.i = omega arith in
    all_counted c.args.q.now rows c.args.row_keys.now c.loop-i.i c.loop-i.number all (c.loop-i.invariant.so_far rows h)

pub returns-in_err-row-clause-few : goal.returns-in_err-row-clause-few
returns-in_err-row-clause-few g c = omega (arith, c.loop-i.invariant.few, c.get.ensures.counted)

pub returns-in_err-row-clause-steps : goal.returns-in_err-row-clause-steps
returns-in_err-row-clause-steps g c =
    let small : c.loop-i.steps < 2 ^ 64 = omega (arith, c.count-counted.type_inv, c.count-counted.ensures) in
    ticks_one (g.R.Records.gets c.args.self.now.rows) (g.R.Records.gets c.loop-i.self.rows) (g.R.Records.gets c.get.new.self.rows) c.args.steps.now c.loop-i.steps c.tick.new.self small c.loop-i.invariant.steps c.tick.ensures c.get.ensures.counted

pub returns-clause-few : goal.returns-clause-few
returns-clause-few g c = omega (arith, c.loop-i.invariant.few)

pub returns-in_err-row-clause-reads : goal.returns-in_err-row-clause-reads
returns-in_err-row-clause-reads g c = reads_then g.R.S.Space (Holds g.R.S.Space g.R.Records g.L.Multi g.D.Multi) c.args.self.now c.loop-i.self c.get.new.self c.args.space.now c.loop-i.space c.get.new.space c.loop-i.invariant.reads c.get.ensures.reads

pub returns-in_err-row-clause-stays : goal.returns-in_err-row-clause-stays
returns-in_err-row-clause-stays g c = stays_then g.R.S.Space g.R.Records g.L.Multi g.D.Multi c.args.self.now c.loop-i.self c.get.new.self c.loop-i.invariant.stays c.get.ensures.stays

pub returns-in_err-row-clause-most : goal.returns-in_err-row-clause-most
returns-in_err-row-clause-most g c = omega (arith, c.loop-i.invariant.most, c.tick.ensures)

pub returns-clause-most : goal.returns-clause-most
returns-clause-most g c = omega (arith, c.loop-i.invariant.most)
