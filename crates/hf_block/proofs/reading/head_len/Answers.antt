use Rattle.std.proofs.Common.{arith}
use Rattle.hf_block.proofs.Blocking.{vnum_most}
use Rattle.hf_block.proofs.reading.head_len.Goals as goal

pub overflow_add-result-2 : goal.overflow_add-result-2
overflow_add-result-2 c = let k = vnum_most c.args.key (omega (arith, c.ranges.key)) in omega (arith, k, c.vnum_len.ensures, c.width.ensures.most)

pub overflow_add-result-3 : goal.overflow_add-result-3
overflow_add-result-3 c =
    let k = vnum_most c.args.key (omega (arith, c.ranges.key)) in
    let v = vnum_most c.args.value (omega (arith, c.ranges.value)) in
    omega (arith, k, v, c.vnum_len.ensures, c.vnum_len-2.ensures, c.width.ensures.most)

pub returns-clause-most : goal.returns-clause-most
returns-clause-most c =
    let k = vnum_most c.args.key (omega (arith, c.ranges.key)) in
    let v = vnum_most c.args.value (omega (arith, c.ranges.value)) in
    omega (arith, k, v, c.vnum_len.ensures, c.vnum_len-2.ensures, c.width.ensures.most)
