use Rattle.std.proofs.Common.{ap}
use Rattle.ty_wire.specs.Reading.{request_at}
use Rattle.ty_ulog.proofs.ahead.is_part.Goals as goal

pub returns-in-Whole : goal.returns-in-Whole
returns-in-Whole c = λ no part.
    let read = c.in-Whole.ensures.reading.2 in
    let same = ap request_at c.behind_head.ensures in
    absurd cc

pub returns-in-Bad : goal.returns-in-Bad
returns-in-Bad c = λ no part.
    let read = c.in-Bad.ensures.reading in
    let same = ap request_at c.behind_head.ensures in
    absurd cc
