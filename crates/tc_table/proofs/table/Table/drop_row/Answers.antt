use Rattle.std.proofs.Common.{Some, refl, inl}
use Rattle.td_index.proofs.Handed.{err_handed, on_err_any}
use Rattle.tc_table.proofs.Holding.{drop_full, map_stays, none_taken, out_done, out_ready, row_stays, rows_ready, still_stays, table_refuses, was_taken}
use Rattle.tc_table.proofs.table.Table.drop_row.Goals as goal

pub out-requires : goal.out-requires
out-requires g c = rows_ready g.R.S.Space g.R.Records g.L.Multi g.D.Multi c.args.self.now c.args.space.now c.requires

pub index-requires : goal.index-requires
index-requires g c = out_ready g.R.S.Space g.R.Records g.L.Multi g.D.Multi c.args.self.now c.out.new.self c.args.space.now c.out.new.space c.args.key.now (was_taken g.R.S.Space g.R.Records g.L.Multi g.D.Multi c.args.self.now c.out.new.self c.args.space.now c.out.new.space c.args.key.now _ c.in_ok-out.ensures.out c.if-not-branch.false) c.requires

pub returns-clause-out : goal.returns-clause-out
returns-clause-out g c =
    out_done g.R.S.Space g.R.Records g.L.Multi g.D.Multi c.args.self.now c.index.new.self c.out.new.self c.args.space.now c.out.new.space c.index.new.space c.args.key.now c.args.old.now
    c.index.ensures.rows (was_taken g.R.S.Space g.R.Records g.L.Multi g.D.Multi c.args.self.now c.out.new.self c.args.space.now c.out.new.space c.args.key.now _ c.in_ok-out.ensures.out c.if-not-branch.false) c.out.ensures.stays.file c.index.ensures.stays c.in_ok-index.ensures.turn

pub returns-clause-stays : goal.returns-clause-stays
returns-clause-stays g c = row_stays g.R.S.Space g.R.Records g.L.Multi g.D.Multi c.args.self.now c.index.new.self c.out.new.self c.index.ensures.rows (map_stays g.R.S.Space g.R.Records g.L.Multi g.D.Multi c.args.self.now.rows c.out.new.self c.out.ensures.stays) c.index.ensures.stays

pub returns-in_err-index-clause-stays : goal.returns-in_err-index-clause-stays
returns-in_err-index-clause-stays g c = row_stays g.R.S.Space g.R.Records g.L.Multi g.D.Multi c.args.self.now c.index.new.self c.out.new.self c.index.ensures.rows (map_stays g.R.S.Space g.R.Records g.L.Multi g.D.Multi c.args.self.now.rows c.out.new.self c.out.ensures.stays) c.index.ensures.stays

pub returns-in_err-index-clause-refused : goal.returns-in_err-index-clause-refused
returns-in_err-index-clause-refused g c = on_err_any _ (inl c.in_err-index.ensures.spoiled)

pub returns-in_err-index-clause-full : goal.returns-in_err-index-clause-full
returns-in_err-index-clause-full g c = λ is.
    drop_full g.R.S.Space g.R.Records g.L.Multi g.D.Multi g.L.O.Order.cmp g.D.O.Order.cmp c.args.self.now c.out.new.self c.args.space.now c.out.new.space c.index.new.space c.args.key.now (Some c.args.old.now) (was_taken g.R.S.Space g.R.Records g.L.Multi g.D.Multi c.args.self.now c.out.new.self c.args.space.now c.out.new.space c.args.key.now _ c.in_ok-out.ensures.out c.if-not-branch.false) c.out.ensures.keeps
    (c.in_err-index.ensures.full (err_handed c.from_residual-in_err-index.result c.in_err-index.field-0.0 _ c.from_residual-in_err-index.ensures.1 is))

pub returns-then-not-branch-clause-refused : goal.returns-then-not-branch-clause-refused
returns-then-not-branch-clause-refused g c = none_taken g.R.S.Space g.R.Records g.L.Multi g.D.Multi c.args.self.now _ c.out.new.self c.args.space.now c.out.new.space c.args.key.now _ refl refl c.out.ensures.stays.file c.in_ok-out.ensures.out c.if-not-branch.true

pub returns-then-not-branch-clause-stays : goal.returns-then-not-branch-clause-stays
returns-then-not-branch-clause-stays g c = still_stays g.R.S.Space g.R.Records g.L.Multi g.D.Multi c.args.self.now _ refl (map_stays g.R.S.Space g.R.Records g.L.Multi g.D.Multi c.args.self.now.rows c.out.new.self c.out.ensures.stays)

pub returns-in_err-out-clause-refused : goal.returns-in_err-out-clause-refused
returns-in_err-out-clause-refused g c = on_err_any _ (table_refuses g.R.S.Space g.R.Records g.L.Multi g.D.Multi c.args.self.now _ c.args.space.now c.out.new.space refl c.out.ensures.stays.file c.in_err-out.ensures.refused)

pub returns-in_err-out-clause-stays : goal.returns-in_err-out-clause-stays
returns-in_err-out-clause-stays g c = still_stays g.R.S.Space g.R.Records g.L.Multi g.D.Multi c.args.self.now _ refl (map_stays g.R.S.Space g.R.Records g.L.Multi g.D.Multi c.args.self.now.rows c.out.new.self c.out.ensures.stays)

pub returns-in_err-out-clause-full : goal.returns-in_err-out-clause-full
returns-in_err-out-clause-full g c = λ is. inl (c.in_err-out.ensures.full (err_handed c.from_residual.result c.in_err-out.field-0.0 _ c.from_residual.ensures.1 is))
