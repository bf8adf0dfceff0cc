use Rattle.std.proofs.Common.{arith}
use Rattle.ud_log.proofs.Heading.{lens_read}
use Rattle.ud_log.proofs.reading.read_lens.Goals as goal

pub returns : goal.returns
returns c = lens_read c.args.head.now c.loop-i.lens c.loop-i.invariant.long (λ k low. c.loop-i.invariant.each k (omega arith))
