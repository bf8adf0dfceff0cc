use Rattle.std.proofs.Common.{◌∙◌, ℕ, List, take, ap}
use Rattle.hf_block.proofs.Padding.{field_front}
use Rattle.hf_chain.proofs.links.stored.Goals as goal

pub returns : goal.returns
returns c = ap (λ (l : List ℕ). take c.args.width l) c.set_le.ensures.after ∙ field_front c.args.width c.args.n _
