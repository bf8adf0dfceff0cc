use Rattle.std.proofs.Common.{rules}
use Rattle.tc_space.specs.Frames.{only_reads_refl, only_reads_then}
use Rattle.tc_reach.proofs.Handed.{err_handed, if_err_handed}
use Rattle.tc_tabledb.specs.Opened.{ArePlaces, IsListed}
use Rattle.tc_tabledb.proofs.Places.{first_place, none_of, rest_places}
use Rattle.tc_tabledb.proofs.Opened.{all_opened, file_opened, first_free, free_file, listed_file, none_opened, rest_away, rest_breaks, rest_free, some_breaks}
use Rattle.tc_tabledb.proofs.opening.+open_sides.Goals as goal

pub returns-in_default-clause-opened : goal.returns-in_default-clause-opened
returns-in_default-clause-opened g t c = all_opened g.S.Space _ c.table_stores.ensures.store _ _ c.args.files.now _ c.args.table.now c.args.table.now c.args.space.now c.args.space.now (none_of c.args.files.now c.in_default.ensures.cases) (none_opened g.S.Space _ c.table_stores.ensures.store _ _ c.args.table.now c.args.space.now)

pub returns-in_default-clause-reads : goal.returns-in_default-clause-reads
returns-in_default-clause-reads g t c = only_reads_refl g.S.Space c.args.space.now c.requires.listed.sound

pub open_file-requires-clause-place : goal.open_file-requires-clause-place
open_file-requires-clause-place g t c = first_place c.args.files.now c.in-Some.rest.now c.in-Some.file.now c.in-Some.ensures.cases.0 c.requires.places

pub open_file-requires-clause-free : goal.open_file-requires-clause-free
open_file-requires-clause-free g t c = first_free g.S.Space _ _ _ _ _ c.table_stores.ensures c.args.table.now.sides.items c.args.files.now c.in-Some.rest.now c.in-Some.file.now c.in-Some.ensures.cases.0 c.requires.free

pub open_sides-requires : goal.open_sides-requires
open_sides-requires g t c κs within =
    let listed : IsListed g.S.Space _ _ _ c.open_file.new.table c.args.row_keys.now c.open_file.new.space = listed_file g.S.Space _ c.table_stores.ensures.store _ _ c.in-Some.file.now c.args.table.now c.open_file.new.table c.args.row_keys.now c.args.space.now c.open_file.new.space c.open_file.ensures.reads c.in_ok-open_file.ensures.opened c.requires.listed in
    let places : ArePlaces c.in-Some.rest.now = rest_places c.args.files.now c.in-Some.rest.now c.in-Some.file.now c.in-Some.ensures.cases.0 c.requires.places in
    let free = free_file g.S.Space _ c.table_stores.ensures.store _ _ c.in-Some.file.now c.in-Some.rest.now c.args.table.now c.open_file.new.table c.args.space.now c.open_file.new.space c.in_ok-open_file.ensures.opened (rest_away g.S.Space _ _ _ _ _ c.table_stores.ensures c.args.table.now.sides.items c.args.files.now c.in-Some.rest.now c.in-Some.file.now c.in-Some.ensures.cases.0 c.requires.free) (rest_free g.S.Space _ _ _ _ _ c.table_stores.ensures c.args.table.now.sides.items c.args.files.now c.in-Some.rest.now c.in-Some.file.now c.in-Some.ensures.cases.0 c.requires.free) in
    search (rules, listed, places, free)

pub returns-in_err-open_file-clause-broken : goal.returns-in_err-open_file-clause-broken
returns-in_err-open_file-clause-broken g t c = if_err_handed c.from_residual.result c.in_err-open_file.field-0.0 _ c.from_residual.ensures.1 (some_breaks g.S.Space _ c.table_stores.ensures.store _ _ c.in-Some.file.now c.in-Some.rest.now c.args.files.now c.args.table.now c.args.space.now c.in_err-open_file.field-0.0 c.in-Some.ensures.cases.0 c.in_err-open_file.ensures.broken)

pub returns-in_err-open_sides-clause-broken : goal.returns-in_err-open_sides-clause-broken
returns-in_err-open_sides-clause-broken g t c = if_err_handed c.from_residual-in_err-open_sides.result c.in_err-open_sides.field-0.0 _ c.from_residual-in_err-open_sides.ensures.1 (rest_breaks g.S.Space _ c.table_stores.ensures.store _ _ c.in-Some.file.now c.in-Some.rest.now c.args.files.now c.args.table.now c.open_file.new.table c.args.space.now c.open_file.new.space c.in_err-open_sides.field-0.0 c.in-Some.ensures.cases.0 c.open_file.ensures.reads.files c.in_ok-open_file.ensures.opened c.in_err-open_sides.ensures.broken)

pub returns-clause-opened : goal.returns-clause-opened
returns-clause-opened g t c = all_opened g.S.Space _ c.table_stores.ensures.store _ _ c.args.files.now _ c.args.table.now c.open_sides.new.table c.args.space.now c.open_sides.new.space c.in-Some.ensures.cases.0 (file_opened g.S.Space _ c.table_stores.ensures.store _ _ c.in-Some.file.now c.in-Some.rest.now c.args.table.now c.open_file.new.table c.open_sides.new.table c.args.space.now c.open_file.new.space c.open_sides.new.space c.open_file.ensures.reads.files c.in_ok-open_file.ensures.opened c.in_ok-open_sides.ensures.opened)

pub returns-in_err-open_file-clause-not_full : goal.returns-in_err-open_file-clause-not_full
returns-in_err-open_file-clause-not_full g t c = λ full. c.in_err-open_file.ensures.not_full (err_handed c.from_residual.result c.in_err-open_file.field-0.0 _ c.from_residual.ensures.1 full)

pub returns-in_err-open_sides-clause-not_full : goal.returns-in_err-open_sides-clause-not_full
returns-in_err-open_sides-clause-not_full g t c = λ full. c.in_err-open_sides.ensures.not_full (err_handed c.from_residual-in_err-open_sides.result c.in_err-open_sides.field-0.0 _ c.from_residual-in_err-open_sides.ensures.1 full)

pub returns-in_err-open_sides-clause-reads : goal.returns-in_err-open_sides-clause-reads
returns-in_err-open_sides-clause-reads g t c = only_reads_then g.S.Space _ _ _ c.open_file.ensures.reads c.open_sides.ensures.reads

pub returns-clause-reads : goal.returns-clause-reads
returns-clause-reads g t c = only_reads_then g.S.Space _ _ _ c.open_file.ensures.reads c.open_sides.ensures.reads
