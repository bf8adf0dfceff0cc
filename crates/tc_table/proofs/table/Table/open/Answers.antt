use Rattle.tc_space.specs.Frames.{In, keeps_then, reads_then}
use Rattle.tc_space.specs.Stores.{ready_reads}
use Rattle.tc_table.proofs.Holding.{map_stays}
use Rattle.tc_table.proofs.Opened.{not_opened, only_reads, opened}
use Rattle.tc_table.proofs.table.Table.open.Goals as goal

pub are_rows-requires : goal.are_rows-requires
are_rows-requires g c = ready_reads g.R.S.Space (In g.R.S.Space g.R.Records.file_of g.R.Records.holds) c.args.rows c.keys.new.self c.args.space.now c.keys.new.space c.keys.ensures.reads c.requires

pub returns-clause-opened : goal.returns-clause-opened
returns-clause-opened g c =
    opened g.R.S.Space g.R.Records g.L.Multi g.D.Multi c.args.rows c.keys.new.self c.are_rows.new.rows c.over.result c.in_ok-row_keys.row_keys c.as_slice.result.now _ c.args.space.now c.keys.new.space c.are_rows.new.space
    (map_stays g.R.S.Space g.R.Records g.L.Multi g.D.Multi c.args.rows c.keys.new.self c.keys.ensures.stays) c.are_rows.ensures.stays c.keys.ensures.reads c.are_rows.ensures.reads
    c.in_ok-row_keys.ensures.value c.as_slice.ensures c.if-not-branch.false c.in_ok-are_rows.ensures.judged (λ m h all. c.over.ensures.holds c.are_rows.new.space m h all) c.over.ensures.rows c.over.ensures.none

pub returns-then-not-branch-clause-opened : goal.returns-then-not-branch-clause-opened
returns-then-not-branch-clause-opened g c =
    not_opened g.R.S.Space g.R.Records g.L.Multi g.D.Multi c.args.rows c.keys.new.self c.as_slice.result.now _ c.args.space.now c.keys.new.space c.keys.ensures.reads c.if-not-branch.true c.in_ok-are_rows.ensures.judged

pub returns-in_err-row_keys-clause-reads : goal.returns-in_err-row_keys-clause-reads
returns-in_err-row_keys-clause-reads g c = only_reads g.R.S.Space (In g.R.S.Space g.R.Records.file_of g.R.Records.holds) c.args.rows c.keys.new.self c.args.space.now c.keys.new.space c.keys.ensures.reads c.keys.ensures.keeps

pub returns-clause-reads : goal.returns-clause-reads
returns-clause-reads g c =
    only_reads g.R.S.Space (In g.R.S.Space g.R.Records.file_of g.R.Records.holds) c.args.rows c.are_rows.new.rows c.args.space.now c.are_rows.new.space
    (reads_then g.R.S.Space (In g.R.S.Space g.R.Records.file_of g.R.Records.holds) c.args.rows c.keys.new.self c.are_rows.new.rows c.args.space.now c.keys.new.space c.are_rows.new.space c.keys.ensures.reads c.are_rows.ensures.reads)
    (keeps_then g.R.S.Space c.args.space.now c.keys.new.space c.are_rows.new.space c.keys.ensures.keeps c.are_rows.ensures.keeps)

pub returns-then-not-branch-clause-reads : goal.returns-then-not-branch-clause-reads
returns-then-not-branch-clause-reads g c =
    only_reads g.R.S.Space (In g.R.S.Space g.R.Records.file_of g.R.Records.holds) c.args.rows c.are_rows.new.rows c.args.space.now c.are_rows.new.space
    (reads_then g.R.S.Space (In g.R.S.Space g.R.Records.file_of g.R.Records.holds) c.args.rows c.keys.new.self c.are_rows.new.rows c.args.space.now c.keys.new.space c.are_rows.new.space c.keys.ensures.reads c.are_rows.ensures.reads)
    (keeps_then g.R.S.Space c.args.space.now c.keys.new.space c.are_rows.new.space c.keys.ensures.keeps c.are_rows.ensures.keeps)

pub returns-in_err-are_rows-clause-reads : goal.returns-in_err-are_rows-clause-reads
returns-in_err-are_rows-clause-reads g c =
    only_reads g.R.S.Space (In g.R.S.Space g.R.Records.file_of g.R.Records.holds) c.args.rows c.are_rows.new.rows c.args.space.now c.are_rows.new.space
    (reads_then g.R.S.Space (In g.R.S.Space g.R.Records.file_of g.R.Records.holds) c.args.rows c.keys.new.self c.are_rows.new.rows c.args.space.now c.keys.new.space c.are_rows.new.space c.keys.ensures.reads c.are_rows.ensures.reads)
    (keeps_then g.R.S.Space c.args.space.now c.keys.new.space c.are_rows.new.space c.keys.ensures.keeps c.are_rows.ensures.keeps)
