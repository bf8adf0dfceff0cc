use Rattle.std.proofs.Common.{inl, refl}
use Rattle.tc_table.proofs.Holding.{map_stays, row_stays, rows_ready, still_stays, table_refuses}
use Rattle.tc_table.proofs.Packed.{table_packs}
use Rattle.tc_table.proofs.Settled.{brought, settle_ready, settled, settled_others}
use Rattle.td_index.proofs.Handed.{on_err_any}
use Rattle.tc_table.proofs.table.Table.settle.Goals as goal

pub settle-requires : goal.settle-requires
settle-requires g c = rows_ready g.R.S.Space g.R.Records g.L.Multi g.D.Multi c.args.self.now c.args.space.now c.requires

pub settle_sides-requires : goal.settle_sides-requires
settle_sides-requires g c = settle_ready g.R.S.Space g.L.Multi g.D.Multi g.R.Records c.args.self.now c.settle.new.self c.args.space.now c.settle.new.space c.in_ok-settle.ensures.settled c.requires

pub returns-clause-settles : goal.returns-clause-settles
returns-clause-settles g c = record {
  sound = c.in_ok-settle_sides.ensures.kept.sound;
  means = settled g.R.S.Space g.L.Multi g.D.Multi g.R.Records c.args.self.now c.settle_sides.new.self c.settle.new.self c.args.space.now c.settle.new.space c.settle_sides.new.space c.settle_sides.ensures.rows c.in_ok-settle.ensures.settled c.settle.ensures.stays.file c.settle_sides.ensures.stays c.in_ok-settle_sides.ensures.kept;
  stand = brought g.R.S.Space g.L.Multi g.D.Multi g.R.Records c.args.self.now c.settle_sides.new.self c.settle.new.self c.args.space.now c.settle.new.space c.settle_sides.new.space c.in_ok-settle.ensures.settled c.in_ok-settle.ensures.stands c.in_ok-settle.ensures.trims c.in_ok-settle_sides.ensures.kept c.in_ok-settle_sides.ensures.brings;
  others = settled_others g.R.S.Space g.L.Multi g.D.Multi g.R.Records c.args.self.now c.settle_sides.new.self c.settle.new.self c.args.space.now c.settle.new.space c.settle_sides.new.space c.in_ok-settle.ensures.settled c.in_ok-settle_sides.ensures.kept;
}

pub returns-clause-packs : goal.returns-clause-packs
returns-clause-packs g c = table_packs g.R.S.Space g.L.Multi g.D.Multi g.R.Records c.args.self.now c.settle_sides.new.self c.settle.new.self c.args.space.now c.settle.new.space c.settle_sides.new.space c.in_ok-settle.ensures.settled c.in_ok-settle.ensures.packs c.in_ok-settle_sides.ensures.kept c.in_ok-settle_sides.ensures.packs

pub returns-clause-stays : goal.returns-clause-stays
returns-clause-stays g c = row_stays g.R.S.Space g.R.Records g.L.Multi g.D.Multi c.args.self.now c.settle_sides.new.self c.settle.new.self c.settle_sides.ensures.rows (map_stays g.R.S.Space g.R.Records g.L.Multi g.D.Multi c.args.self.now.rows c.settle.new.self c.settle.ensures.stays) c.settle_sides.ensures.stays

pub returns-in_err-settle_sides-clause-stays : goal.returns-in_err-settle_sides-clause-stays
returns-in_err-settle_sides-clause-stays g c = row_stays g.R.S.Space g.R.Records g.L.Multi g.D.Multi c.args.self.now c.settle_sides.new.self c.settle.new.self c.settle_sides.ensures.rows (map_stays g.R.S.Space g.R.Records g.L.Multi g.D.Multi c.args.self.now.rows c.settle.new.self c.settle.ensures.stays) c.settle_sides.ensures.stays

pub returns-in_err-settle-clause-refused : goal.returns-in_err-settle-clause-refused
returns-in_err-settle-clause-refused g c = on_err_any _ (table_refuses g.R.S.Space g.R.Records g.L.Multi g.D.Multi c.args.self.now _ c.args.space.now c.settle.new.space refl c.settle.ensures.stays.file c.in_err-settle.ensures.refused)

pub returns-in_err-settle-clause-stays : goal.returns-in_err-settle-clause-stays
returns-in_err-settle-clause-stays g c = still_stays g.R.S.Space g.R.Records g.L.Multi g.D.Multi c.args.self.now _ refl (map_stays g.R.S.Space g.R.Records g.L.Multi g.D.Multi c.args.self.now.rows c.settle.new.self c.settle.ensures.stays)

pub returns-in_err-settle_sides-clause-refused : goal.returns-in_err-settle_sides-clause-refused
returns-in_err-settle_sides-clause-refused g c = on_err_any _ (inl c.in_err-settle_sides.ensures.spoiled)
