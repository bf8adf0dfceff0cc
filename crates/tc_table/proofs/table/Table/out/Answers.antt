use Rattle.std.proofs.Common.{◌∙◌, sym, inr}
use Rattle.tc_space.specs.Stores.{ready_reads}
use Rattle.td_index.proofs.Handed.{err_handed, on_err_any}
use Rattle.tc_table.specs.Tables.{Holds}
use Rattle.tc_table.proofs.Holding.{none_out, out_full, out_made, refused_then, stays_then}
use Rattle.tc_table.proofs.table.Table.out.Goals as goal

pub drop_row-requires : goal.drop_row-requires
drop_row-requires g c = ready_reads g.R.S.Space (Holds g.R.S.Space g.R.Records g.L.Multi g.D.Multi) c.args.self.now c.get.new.self c.args.space.now c.get.new.space c.get.ensures.reads c.requires

pub returns-in_default-clause-out : goal.returns-in_default-clause-out
returns-in_default-clause-out g c = none_out g.R.S.Space g.R.Records g.L.Multi g.D.Multi c.args.self.now c.get.new.self c.args.space.now c.get.new.space c.args.key.now c.get.ensures.reads (λ rows h. sym c.in_default.is ∙ c.in_ok-old.ensures.value rows h)

pub returns-in_err-old-clause-refused : goal.returns-in_err-old-clause-refused
returns-in_err-old-clause-refused g c = on_err_any _ (inr c.get.ensures.reads)

pub returns-clause-out : goal.returns-clause-out
returns-clause-out g c = out_made g.R.S.Space g.R.Records g.L.Multi g.D.Multi c.args.self.now c.get.new.self c.drop_row.new.self c.args.space.now c.get.new.space c.drop_row.new.space c.args.key.now c.in-Some.old c.get.ensures.stays c.get.ensures.reads c.in_ok-drop_row.ensures.out (λ rows h. sym c.in-Some.is ∙ c.in_ok-old.ensures.value rows h)

pub returns-in_err-drop_row-clause-refused : goal.returns-in_err-drop_row-clause-refused
returns-in_err-drop_row-clause-refused g c = on_err_any _ (refused_then g.R.S.Space g.R.Records g.L.Multi g.D.Multi c.args.self.now c.get.new.self c.drop_row.new.self c.args.space.now c.get.new.space c.drop_row.new.space c.get.ensures.reads c.in_err-drop_row.ensures.refused)

pub returns-in_err-drop_row-clause-full : goal.returns-in_err-drop_row-clause-full
returns-in_err-drop_row-clause-full g c = λ is.
    out_full g.R.S.Space g.R.Records g.L.Multi g.D.Multi g.L.O.Order.cmp g.D.O.Order.cmp c.args.self.now c.get.new.self c.args.space.now c.get.new.space c.drop_row.new.space c.args.key.now c.in-Some.old c.get.ensures.reads c.get.ensures.stays c.get.ensures.keeps (λ rows h. sym c.in-Some.is ∙ c.in_ok-old.ensures.value rows h)
    (c.in_err-drop_row.ensures.full (err_handed c.from_residual-in_err-drop_row.result c.in_err-drop_row.field-0.0 _ c.from_residual-in_err-drop_row.ensures.1 is))

pub returns-clause-stays : goal.returns-clause-stays
returns-clause-stays g c = stays_then g.R.S.Space g.R.Records g.L.Multi g.D.Multi c.args.self.now c.get.new.self c.drop_row.new.self c.get.ensures.stays c.drop_row.ensures.stays

pub returns-in_err-drop_row-clause-stays : goal.returns-in_err-drop_row-clause-stays
returns-in_err-drop_row-clause-stays g c = stays_then g.R.S.Space g.R.Records g.L.Multi g.D.Multi c.args.self.now c.get.new.self c.drop_row.new.self c.get.ensures.stays c.drop_row.ensures.stays
