use Rattle.std.proofs.Common.{◌∙◌, sym}
use Rattle.td_index.proofs.Handed.{err_handed}
use Rattle.tc_table.specs.Sides.{tree_file}
use Rattle.tc_table.proofs.Added.{full_at, row_added}
use Rattle.tc_table.proofs.Turning.{side_stays, tree_ready_still}
use Rattle.tc_table.proofs.table.Table.add_row.Goals as goal

pub get-requires : goal.get-requires
get-requires g c = c.requires.ready

pub change_side-requires : goal.change_side-requires
change_side-requires g c = record { ready = tree_ready_still g.R.S.Space g.L.Multi g.D.Multi c.args.side.now.tree c.args.space.now c.get.new.space c.get.ensures.reads.sound (λ tells. c.get.ensures.reads.now tells (tree_file g.L.Multi g.D.Multi c.args.side.now.tree)) c.requires.tree }

pub returns-clause-adds : goal.returns-clause-adds
returns-clause-adds g c =
    row_added g.R.S.Space g.R.Records g.L.Multi g.D.Multi c.args.key.now c.args.side.now c.change_side.new.side c.args.self.now c.get.new.self c.in-Some.row c.args.space.now c.get.new.space c.change_side.new.space c.requires.away c.get.ensures.stays c.get.ensures.reads
    (λ rows h. sym c.in-Some.is ∙ c.in_ok-row.ensures.value rows h) c.in_ok-change_side.ensures.turns

pub returns-in_err-change_side-clause-full : goal.returns-in_err-change_side-clause-full
returns-in_err-change_side-clause-full g c = λ is.
    full_at g.R.S.Space g.R.Records g.L.Multi g.D.Multi g.L.O.Order.cmp g.D.O.Order.cmp c.args.key.now c.args.side.now c.args.self.now c.get.new.self c.in-Some.row c.args.space.now c.get.new.space c.change_side.new.space c.get.ensures.reads c.get.ensures.keeps (λ rows h. sym c.in-Some.is ∙ c.in_ok-row.ensures.value rows h)
    (c.in_err-change_side.ensures.full (err_handed c.from_residual-in_err-change_side.result c.in_err-change_side.field-0.0 _ c.from_residual-in_err-change_side.ensures.1 is))

pub returns-in_err-row-clause-side : goal.returns-in_err-row-clause-side
returns-in_err-row-clause-side g c = side_stays g.R.S.Space g.L.Multi g.D.Multi c.args.side.now

pub returns-in_default-clause-side : goal.returns-in_default-clause-side
returns-in_default-clause-side g c = side_stays g.R.S.Space g.L.Multi g.D.Multi c.args.side.now
