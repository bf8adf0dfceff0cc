use Rattle.std.proofs.Common.{arith}
use Rattle.hf_chain.proofs.Descents.{place_low}
use Rattle.hf_chain.proofs.heads.place_named.Goals as goal

pub overflow_mul-from : goal.overflow_mul-from
overflow_mul-from c = omega (arith, place_low c.from.result c.from-2.result (omega (arith, c.from.ensures, c.requires)) (omega (arith, c.from-2.ensures, c.ranges.n)))
