use Rattle.std.proofs.Common.{◌∙◌, refl}
use Rattle.tc_table.proofs.Holding.{rows_ready, still_stays, table_reads, table_stays}
use Rattle.tc_table.proofs.Opened.{judged_side, told_left, told_right}
use Rattle.tc_table.proofs.Turning.{side_same, side_stays}
use Rattle.tc_table.proofs.table.Table.check.Goals as goal

pub check_tree-requires-clause-rows : goal.check_tree-requires-clause-rows
check_tree-requires-clause-rows g c = rows_ready g.R.S.Space g.R.Records g.L.Multi g.D.Multi c.args.self.now c.args.space.now c.requires.ready

pub returns-in_err-name-clause-side : goal.returns-in_err-name-clause-side
returns-in_err-name-clause-side g c = side_stays g.R.S.Space g.L.Multi g.D.Multi c.args.side.now

pub returns-clause-exact : goal.returns-clause-exact
returns-clause-exact g c =
    judged_side g.R.S.Space g.R.Records g.L.Multi g.D.Multi c.args.side.now c.in_ok-name.name c.args.row_keys.now c.args.self.now c.args.space.now c.in_ok-fits.fits (c.in_ok-name.ensures ∙ (c.as_slice.ensures ∙ c.name.ensures)) c.in_ok-fits.ensures.exact

pub returns-clause-reads : goal.returns-clause-reads
returns-clause-reads g c =
    table_reads g.R.S.Space g.R.Records g.L.Multi g.D.Multi c.args.self.now _ c.args.space.now c.check_tree.new.space refl c.check_tree.ensures.rows.file
    (told_left g.R.S.Space g.R.Records g.L.Multi g.D.Multi c.args.self.now.rows c.check_tree.new.rows c.args.side.now.tree c.check_tree.new.tree c.args.space.now c.check_tree.new.space c.requires.tree c.check_tree.ensures.reads)

pub returns-in_err-fits-clause-reads : goal.returns-in_err-fits-clause-reads
returns-in_err-fits-clause-reads g c =
    table_reads g.R.S.Space g.R.Records g.L.Multi g.D.Multi c.args.self.now _ c.args.space.now c.check_tree.new.space refl c.check_tree.ensures.rows.file
    (told_left g.R.S.Space g.R.Records g.L.Multi g.D.Multi c.args.self.now.rows c.check_tree.new.rows c.args.side.now.tree c.check_tree.new.tree c.args.space.now c.check_tree.new.space c.requires.tree c.check_tree.ensures.reads)

pub returns-clause-tree : goal.returns-clause-tree
returns-clause-tree g c =
    told_right g.R.S.Space g.R.Records g.L.Multi g.D.Multi c.args.self.now.rows c.check_tree.new.rows c.args.side.now.tree c.check_tree.new.tree c.args.space.now c.check_tree.new.space
    (rows_ready g.R.S.Space g.R.Records g.L.Multi g.D.Multi c.args.self.now c.args.space.now c.requires.ready) c.check_tree.ensures.reads

pub returns-in_err-fits-clause-tree : goal.returns-in_err-fits-clause-tree
returns-in_err-fits-clause-tree g c =
    told_right g.R.S.Space g.R.Records g.L.Multi g.D.Multi c.args.self.now.rows c.check_tree.new.rows c.args.side.now.tree c.check_tree.new.tree c.args.space.now c.check_tree.new.space
    (rows_ready g.R.S.Space g.R.Records g.L.Multi g.D.Multi c.args.self.now c.args.space.now c.requires.ready) c.check_tree.ensures.reads

pub returns-clause-stays : goal.returns-clause-stays
returns-clause-stays g c = still_stays g.R.S.Space g.R.Records g.L.Multi g.D.Multi c.args.self.now _ refl c.check_tree.ensures.rows

pub returns-in_err-fits-clause-stays : goal.returns-in_err-fits-clause-stays
returns-in_err-fits-clause-stays g c = still_stays g.R.S.Space g.R.Records g.L.Multi g.D.Multi c.args.self.now _ refl c.check_tree.ensures.rows

pub returns-clause-side : goal.returns-clause-side
returns-clause-side g c = side_same g.R.S.Space g.L.Multi g.D.Multi c.args.side.now c.check_tree.new.tree c.check_tree.ensures.stays

pub returns-in_err-fits-clause-side : goal.returns-in_err-fits-clause-side
returns-in_err-fits-clause-side g c = side_same g.R.S.Space g.L.Multi g.D.Multi c.args.side.now c.check_tree.new.tree c.check_tree.ensures.stays

pub returns-in_err-name-clause-stays : goal.returns-in_err-name-clause-stays
returns-in_err-name-clause-stays g c = table_stays g.R.S.Space g.R.Records g.L.Multi g.D.Multi c.args.self.now
