use Rattle.std.proofs.Common.{arith, sym}
use Rattle.ud_log.proofs.Heading.{short_each, short_not}
use Rattle.ud_log.proofs.tests.are_short.Goals as goal

pub returns-then-len-gt-FILE_MOST : goal.returns-then-len-gt-FILE_MOST
returns-then-len-gt-FILE_MOST c = sym (short_not c.args.lens.now c.loop-len.len-index (omega arith) (omega arith))

pub returns : goal.returns
returns c = sym (short_each c.args.lens.now (λ k low. c.loop-len.invariant k (omega arith)))
