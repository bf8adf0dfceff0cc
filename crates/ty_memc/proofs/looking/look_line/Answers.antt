use Rattle.std.proofs.Common.{arith}
use Rattle.ty_memc.proofs.Fronts.{too_long, no_line}
use Rattle.ty_memc.proofs.looking.look_line.Goals as goal

pub returns-then-bytes-ge-LINE_MOST-clause-reading : goal.returns-then-bytes-ge-LINE_MOST-clause-reading
returns-then-bytes-ge-LINE_MOST-clause-reading c = too_long c.args.bytes.now (omega (arith, c.in_default.ensures, c.if-bytes-ge-LINE_MOST.true))

pub returns-clause-reading : goal.returns-clause-reading
returns-clause-reading c = no_line c.args.bytes.now (omega (arith, c.in_default.ensures, c.if-bytes-ge-LINE_MOST.false)) (omega (arith, c.if-bytes-ge-LINE_MOST.false))
