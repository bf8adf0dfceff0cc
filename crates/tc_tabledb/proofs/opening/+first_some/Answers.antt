use Rattle.tc_tabledb.proofs.Places.{first_here, first_later, first_place, no_length, none_some, rest_places, some_bytes}
use Rattle.tc_tabledb.proofs.Opened.{place_data}
use Rattle.std.proofs.Common.{rules, arith}
use Rattle.tc_tabledb.specs.Opened.{ArePlaces}
use Rattle.tc_tabledb.proofs.opening.+first_some.Goals as goal

pub len-requires-clause-file : goal.len-requires-clause-file
len-requires-clause-file g t c = place_data c.in-Some.file.now (first_place c.args.files.now c.in-Some.rest.now c.in-Some.file.now c.in-Some.ensures.cases.0 c.requires.places)

pub first_some-requires : goal.first_some-requires
first_some-requires g t c κs within =
    let places : ArePlaces c.in-Some.rest.now = rest_places c.args.files.now c.in-Some.rest.now c.in-Some.file.now c.in-Some.ensures.cases.0 c.requires.places in
    search (rules, places)

pub returns-in_default : goal.returns-in_default
returns-in_default g t c = none_some g.S.Space.tells (g.S.Space.now c.args.space.now) c.args.files.now c.in_default.ensures.cases

pub returns-then-len-gt0 : goal.returns-then-len-gt0
returns-then-len-gt0 g t c = first_here g.S.Space.tells (g.S.Space.now c.args.space.now) c.args.files.now c.in-Some.rest.now c.in-Some.file.now c.in-Some.ensures.cases.0 (λ told. some_bytes (g.S.Space.now c.args.space.now c.in-Some.file.now) c.len.result (c.len.ensures told) c.if-len-gt0.true)

pub returns : goal.returns
returns g t c = first_later g.S.Space.tells (g.S.Space.now c.args.space.now) c.args.files.now c.in-Some.rest.now c.in-Some.file.now c.first_some.result c.in-Some.ensures.cases.0 (λ told. no_length (g.S.Space.now c.args.space.now c.in-Some.file.now) c.len.result (c.len.ensures told) (omega (arith, c.if-len-gt0.false))) c.first_some.ensures
