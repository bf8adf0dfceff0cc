use Rattle.std.proofs.Common.{arith}
use Rattle.hf_block.proofs.Blocking.{vnum_most}
use Rattle.hf_pool.proofs.pool.pair_len.Goals as goal

pub overflow_add-result : goal.overflow_add-result
overflow_add-result c =
    let d = vnum_most c.args.difference (omega (arith, c.ranges.difference)) in
    let u = vnum_most c.args.units (omega (arith, c.ranges.units)) in
    omega (arith, d, u, c.vnum_len.ensures, c.vnum_len-2.ensures)

pub returns-clause-most : goal.returns-clause-most
returns-clause-most c =
    let d = vnum_most c.args.difference (omega (arith, c.ranges.difference)) in
    let u = vnum_most c.args.units (omega (arith, c.ranges.units)) in
    omega (arith, d, u, c.vnum_len.ensures, c.vnum_len-2.ensures)
