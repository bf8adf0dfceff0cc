use Rattle.std.proofs.Common.{◌∙◌, inr}
use Rattle.std.specs.Option.{option_copied}
use Rattle.tc_space.specs.Stores.{ready_reads}
use Rattle.td_index.proofs.Handed.{err_handed, on_err_any}
use Rattle.tc_table.specs.Tables.{Holds}
use Rattle.tc_table.proofs.Holding.{not_put, put_full, put_made, refused_then, stays_then}
use Rattle.tc_table.proofs.table.Table.put.Goals as goal

pub set-requires : goal.set-requires
set-requires g c = ready_reads g.R.S.Space (Holds g.R.S.Space g.R.Records g.L.Multi g.D.Multi) c.args.self.now c.get.new.self c.args.space.now c.get.new.space c.get.ensures.reads c.requires

pub returns-in_err-old-clause-refused : goal.returns-in_err-old-clause-refused
returns-in_err-old-clause-refused g c = on_err_any _ (inr c.get.ensures.reads)

pub returns-in_default-clause-put : goal.returns-in_default-clause-put
returns-in_default-clause-put g c =
    not_put g.R.S.Space g.R.Records g.L.Multi g.D.Multi c.args.self.now c.get.new.self c.args.space.now c.get.new.space c.args.mode c.args.key.now c.args.row (option_copied c.as_ref-had.result) c.in_ok-new.field-0 c.get.ensures.reads (λ rows h. c.as_ref-had.ensures.value ∙ c.in_ok-old.ensures.value rows h) c.in_ok-new.ensures c.in_default.is

pub returns-in_err-new-clause-refused : goal.returns-in_err-new-clause-refused
returns-in_err-new-clause-refused g c = on_err_any _ (inr c.get.ensures.reads)

pub returns-clause-put : goal.returns-clause-put
returns-clause-put g c =
    put_made g.R.S.Space g.R.Records g.L.Multi g.D.Multi c.args.self.now c.get.new.self c.set.new.self c.args.space.now c.get.new.space c.set.new.space c.args.mode c.args.key.now c.args.row c.in-Some.new (option_copied c.as_ref-had.result) c.in_ok-new.field-0 c.get.ensures.stays c.get.ensures.reads c.in_ok-set.ensures.set
    (λ rows h. c.as_ref-had.ensures.value ∙ c.in_ok-old.ensures.value rows h) c.in_ok-new.ensures c.in-Some.is

pub returns-in_err-set-clause-refused : goal.returns-in_err-set-clause-refused
returns-in_err-set-clause-refused g c = on_err_any _ (refused_then g.R.S.Space g.R.Records g.L.Multi g.D.Multi c.args.self.now c.get.new.self c.set.new.self c.args.space.now c.get.new.space c.set.new.space c.get.ensures.reads c.in_err-set.ensures.refused)

pub returns-in_err-set-clause-full : goal.returns-in_err-set-clause-full
returns-in_err-set-clause-full g c = λ is.
    put_full g.R.S.Space g.R.Records g.L.Multi g.D.Multi g.L.O.Order.cmp g.D.O.Order.cmp c.args.self.now c.get.new.self c.args.space.now c.get.new.space c.set.new.space c.args.mode c.args.key.now c.args.row c.in-Some.new (option_copied c.as_ref-had.result) c.in_ok-new.field-0 c.get.ensures.reads c.get.ensures.stays c.get.ensures.keeps
    (λ rows h. c.as_ref-had.ensures.value ∙ c.in_ok-old.ensures.value rows h) c.in_ok-new.ensures c.in-Some.is (c.in_err-set.ensures.full (err_handed c.from_residual-in_err-set.result c.in_err-set.field-0.0 _ c.from_residual-in_err-set.ensures.1 is))

pub returns-clause-stays : goal.returns-clause-stays
returns-clause-stays g c = stays_then g.R.S.Space g.R.Records g.L.Multi g.D.Multi c.args.self.now c.get.new.self c.set.new.self c.get.ensures.stays c.set.ensures.stays

pub returns-in_err-set-clause-stays : goal.returns-in_err-set-clause-stays
returns-in_err-set-clause-stays g c = stays_then g.R.S.Space g.R.Records g.L.Multi g.D.Multi c.args.self.now c.get.new.self c.set.new.self c.get.ensures.stays c.set.ensures.stays
