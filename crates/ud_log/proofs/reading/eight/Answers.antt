use Rattle.std.proofs.Common.{◌+◌, ◌*◌, ◌∙◌}
use Rattle.ud_log.proofs.Heading.{eight_is}
use Rattle.ud_log.proofs.reading.eight.Goals as goal

pub returns : goal.returns
returns c = (λ i. c.four.ensures i + 4294967296 * c.four-2.ensures i) ∙ eight_is c.args.bytes.now c.args.at c.requires
