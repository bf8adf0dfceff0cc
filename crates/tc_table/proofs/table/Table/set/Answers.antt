use Rattle.std.proofs.Common.{refl, inl}
use Rattle.std.specs.Option.{option_copied}
use Rattle.tc_base.specs.declared.kind.Mode.TheVariants.{Over}
use Rattle.tc_space.specs.Changes.{put_in}
use Rattle.td_index.proofs.Handed.{err_handed, on_err_any}
use Rattle.tc_table.proofs.Holding.{index_ready, map_stays, record_full, row_stays, rows_ready, set_done, set_full, still_stays, table_refuses, table_stays}
use Rattle.tc_table.proofs.table.Table.set.Goals as goal

pub put_bytes-requires : goal.put_bytes-requires
put_bytes-requires g c = rows_ready g.R.S.Space g.R.Records g.L.Multi g.D.Multi c.args.self.now c.args.space.now c.requires

pub index-requires : goal.index-requires
index-requires g c = index_ready g.R.S.Space g.R.Records g.L.Multi g.D.Multi c.args.self.now c.put_bytes.new.rows c.args.space.now c.put_bytes.new.space (put_in Over c.args.key.now c.as_slice.result.now) c.in_ok-put_bytes.ensures.put c.requires

pub returns-clause-set : goal.returns-clause-set
returns-clause-set g c =
    set_done g.R.S.Space g.R.Records g.L.Multi g.D.Multi c.args.self.now c.index.new.self c.put_bytes.new.rows c.args.space.now c.put_bytes.new.space c.index.new.space c.args.key.now c.in_ok-bytes.bytes c.as_slice.result.now (option_copied c.args.old) c.args.new.now
    c.in_ok-bytes.ensures.bytes c.as_slice.ensures c.in_ok-bytes.ensures.row c.index.ensures.rows c.in_ok-put_bytes.ensures.put c.put_bytes.ensures.stays.file c.index.ensures.stays c.in_ok-index.ensures.turn

pub returns-clause-stays : goal.returns-clause-stays
returns-clause-stays g c = row_stays g.R.S.Space g.R.Records g.L.Multi g.D.Multi c.args.self.now c.index.new.self c.put_bytes.new.rows c.index.ensures.rows (map_stays g.R.S.Space g.R.Records g.L.Multi g.D.Multi c.args.self.now.rows c.put_bytes.new.rows c.put_bytes.ensures.stays) c.index.ensures.stays

pub returns-in_err-index-clause-stays : goal.returns-in_err-index-clause-stays
returns-in_err-index-clause-stays g c = row_stays g.R.S.Space g.R.Records g.L.Multi g.D.Multi c.args.self.now c.index.new.self c.put_bytes.new.rows c.index.ensures.rows (map_stays g.R.S.Space g.R.Records g.L.Multi g.D.Multi c.args.self.now.rows c.put_bytes.new.rows c.put_bytes.ensures.stays) c.index.ensures.stays

pub returns-in_err-index-clause-refused : goal.returns-in_err-index-clause-refused
returns-in_err-index-clause-refused g c = on_err_any _ (inl c.in_err-index.ensures.spoiled)

pub returns-in_err-index-clause-full : goal.returns-in_err-index-clause-full
returns-in_err-index-clause-full g c = λ is.
    set_full g.R.S.Space g.R.Records g.L.Multi g.D.Multi g.L.O.Order.cmp g.D.O.Order.cmp c.args.self.now c.put_bytes.new.rows c.args.space.now c.put_bytes.new.space c.index.new.space c.args.key.now c.in_ok-bytes.bytes c.as_slice.result.now (option_copied c.args.old) c.args.new.now
    c.in_ok-bytes.ensures.bytes c.as_slice.ensures c.in_ok-put_bytes.ensures.put c.put_bytes.ensures.keeps (c.in_err-index.ensures.full (err_handed c.from_residual-in_err-index.result c.in_err-index.field-0.0 _ c.from_residual-in_err-index.ensures.1 is))

pub returns-in_err-put_bytes-clause-refused : goal.returns-in_err-put_bytes-clause-refused
returns-in_err-put_bytes-clause-refused g c = on_err_any _ (table_refuses g.R.S.Space g.R.Records g.L.Multi g.D.Multi c.args.self.now _ c.args.space.now c.put_bytes.new.space refl c.put_bytes.ensures.stays.file c.in_err-put_bytes.ensures.refused)

pub returns-in_err-put_bytes-clause-stays : goal.returns-in_err-put_bytes-clause-stays
returns-in_err-put_bytes-clause-stays g c = still_stays g.R.S.Space g.R.Records g.L.Multi g.D.Multi c.args.self.now _ refl (map_stays g.R.S.Space g.R.Records g.L.Multi g.D.Multi c.args.self.now.rows c.put_bytes.new.rows c.put_bytes.ensures.stays)

pub returns-in_err-put_bytes-clause-full : goal.returns-in_err-put_bytes-clause-full
returns-in_err-put_bytes-clause-full g c = λ is.
    record_full g.R.S.Space g.R.Records g.L.Multi g.D.Multi g.L.O.Order.cmp g.D.O.Order.cmp c.args.self.now c.args.space.now c.put_bytes.new.space c.args.key.now c.in_ok-bytes.bytes c.as_slice.result.now (option_copied c.args.old) c.args.new.now c.in_ok-bytes.ensures.bytes c.as_slice.ensures
    (c.in_err-put_bytes.ensures.full (err_handed c.from_residual-in_err-put_bytes.result c.in_err-put_bytes.field-0.0 _ c.from_residual-in_err-put_bytes.ensures.1 is))

pub returns-in_err-bytes-clause-stays : goal.returns-in_err-bytes-clause-stays
returns-in_err-bytes-clause-stays g c = table_stays g.R.S.Space g.R.Records g.L.Multi g.D.Multi c.args.self.now
