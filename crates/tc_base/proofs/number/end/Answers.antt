use Rattle.std.proofs.Common.{arith}
use Rattle.tc_base.proofs.Vnums.{end_fits}
use Rattle.tc_base.proofs.number.end.Goals as goal

pub overflow_mul-result : goal.overflow_mul-result
overflow_mul-result c =
    let f = end_fits c.args.behind c.args.last c.args.low c.args.scale c.requires.few c.requires.ends c.requires.scale c.requires.low c.else-behind-eq9.either in
    rw c.from.ensures (omega (arith, f))

pub overflow_add-result : goal.overflow_add-result
overflow_add-result c =
    let f = end_fits c.args.behind c.args.last c.args.low c.args.scale c.requires.few c.requires.ends c.requires.scale c.requires.low c.else-behind-eq9.either in
    rw c.from.ensures (omega (arith, f))
