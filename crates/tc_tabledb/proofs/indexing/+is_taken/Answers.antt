use Rattle.tc_tabledb.proofs.Places.{first_taken, none_taken, rest_free, rest_taken}
use Rattle.tc_tabledb.proofs.indexing.+is_taken.Goals as goal

pub returns-in_default-clause-free : goal.returns-in_default-clause-free
returns-in_default-clause-free g t c = λ is. none_taken g.L.Multi g.D.Multi c.args.file c.args.sides.now c.in_default.ensures.cases

pub returns-then-here-file-clause-taken : goal.returns-then-here-file-clause-taken
returns-then-here-file-clause-taken g t c = λ is. first_taken g.L.Multi g.D.Multi c.args.file c.args.sides.now c.in-Some.rest.now c.in-Some.first.now c.file_of-here.result c.in-Some.ensures.cases.0 c.file_of-here.ensures c.if-here-file.true

pub returns-clause-free : goal.returns-clause-free
returns-clause-free g t c = λ is. rest_free g.L.Multi g.D.Multi c.args.file c.args.sides.now c.in-Some.rest.now c.in-Some.first.now c.file_of-here.result c.in-Some.ensures.cases.0 c.file_of-here.ensures c.if-here-file.false (c.is_taken.ensures.free is)

pub returns-clause-taken : goal.returns-clause-taken
returns-clause-taken g t c = λ is. rest_taken g.L.Multi g.D.Multi c.args.file c.args.sides.now c.in-Some.rest.now c.in-Some.first.now c.file_of-here.result c.in-Some.ensures.cases.0 c.file_of-here.ensures (c.is_taken.ensures.taken is)
