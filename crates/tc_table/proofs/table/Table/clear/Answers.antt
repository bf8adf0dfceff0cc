use Rattle.std.proofs.Common.{inl, refl}
use Rattle.std.specs.FinMap.{empty}
use Rattle.tc_table.proofs.Cleared.{clear_ready, cleared, sides_bare}
use Rattle.tc_table.proofs.Holding.{map_stays, row_stays, rows_ready, still_stays, table_refuses}
use Rattle.td_index.proofs.Handed.{err_handed, on_err_any}
use Rattle.tc_table.proofs.table.Table.clear.Goals as goal

pub clear-requires : goal.clear-requires
clear-requires g c = rows_ready g.R.S.Space g.R.Records g.L.Multi g.D.Multi c.args.self.now c.args.space.now c.requires

pub clear_sides-requires : goal.clear_sides-requires
clear_sides-requires g c = clear_ready g.R.S.Space g.L.Multi g.D.Multi g.R.Records c.args.self.now c.clear.new.self c.args.space.now c.clear.new.space (λ m. empty) c.in_ok-clear.ensures.cleared c.requires

pub returns-clause-cleared : goal.returns-clause-cleared
returns-clause-cleared g c = cleared g.R.S.Space g.L.Multi g.D.Multi g.R.Records c.args.self.now c.clear_sides.new.self c.clear.new.self c.args.space.now c.clear.new.space c.clear_sides.new.space c.clear_sides.ensures.rows c.in_ok-clear.ensures.cleared c.clear.ensures.stays.file c.clear_sides.ensures.stays c.in_ok-clear_sides.ensures.clears

pub returns-clause-stays : goal.returns-clause-stays
returns-clause-stays g c = row_stays g.R.S.Space g.R.Records g.L.Multi g.D.Multi c.args.self.now c.clear_sides.new.self c.clear.new.self c.clear_sides.ensures.rows (map_stays g.R.S.Space g.R.Records g.L.Multi g.D.Multi c.args.self.now.rows c.clear.new.self c.clear.ensures.stays) c.clear_sides.ensures.stays

pub returns-in_err-clear_sides-clause-stays : goal.returns-in_err-clear_sides-clause-stays
returns-in_err-clear_sides-clause-stays g c = row_stays g.R.S.Space g.R.Records g.L.Multi g.D.Multi c.args.self.now c.clear_sides.new.self c.clear.new.self c.clear_sides.ensures.rows (map_stays g.R.S.Space g.R.Records g.L.Multi g.D.Multi c.args.self.now.rows c.clear.new.self c.clear.ensures.stays) c.clear_sides.ensures.stays

pub returns-in_err-clear_sides-clause-full : goal.returns-in_err-clear_sides-clause-full
returns-in_err-clear_sides-clause-full g c = λ is. sides_bare g.R.S.Space g.L.Multi g.D.Multi g.R.Records c.args.self.now c.clear.new.self c.args.space.now c.clear.new.space c.clear_sides.new.space c.in_ok-clear.ensures.cleared c.clear.ensures.keeps (c.in_err-clear_sides.ensures.full (err_handed c.from_residual-in_err-clear_sides.result c.in_err-clear_sides.field-0.0 _ c.from_residual-in_err-clear_sides.ensures.1 is))

pub returns-in_err-clear-clause-refused : goal.returns-in_err-clear-clause-refused
returns-in_err-clear-clause-refused g c = on_err_any _ (table_refuses g.R.S.Space g.R.Records g.L.Multi g.D.Multi c.args.self.now _ c.args.space.now c.clear.new.space refl c.clear.ensures.stays.file c.in_err-clear.ensures.refused)

pub returns-in_err-clear-clause-stays : goal.returns-in_err-clear-clause-stays
returns-in_err-clear-clause-stays g c = still_stays g.R.S.Space g.R.Records g.L.Multi g.D.Multi c.args.self.now _ refl (map_stays g.R.S.Space g.R.Records g.L.Multi g.D.Multi c.args.self.now.rows c.clear.new.self c.clear.ensures.stays)

pub returns-in_err-clear-clause-full : goal.returns-in_err-clear-clause-full
returns-in_err-clear-clause-full g c = λ is. inl (c.in_err-clear.ensures.full (err_handed c.from_residual.result c.in_err-clear.field-0.0 _ c.from_residual.ensures.1 is))

pub returns-in_err-clear_sides-clause-refused : goal.returns-in_err-clear_sides-clause-refused
returns-in_err-clear_sides-clause-refused g c = on_err_any _ (inl c.in_err-clear_sides.ensures.spoiled)
