use Rattle.std.proofs.Common.{◌∙◌}
use Rattle.hf_head.specs.Heads.{wide}
use Rattle.hf_block.specs.Fronts.{rec_front}
use Rattle.hf_block.proofs.reading.read_rec.Goals as goal

pub returns-in-Some : goal.returns-in-Some
returns-in-Some c = (λ i. rec_front (wide (c.if-not-large.true i)) c.args.bytes.now) ∙ c.in-Some.ensures
