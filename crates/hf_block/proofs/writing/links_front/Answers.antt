use Rattle.std.proofs.Common.{◌∙◌, ◌+◌, ◌*◌, ℕ, List, take, ap}
use Rattle.tc_base.specs.Endian.{le_bytes}
use Rattle.tc_base.specs.Files.{wrote}
use Rattle.hf_block.proofs.Padding.{links_at}
use Rattle.hf_block.proofs.writing.links_front.Goals as goal

pub returns : goal.returns
returns c = ap (λ (l : List ℕ). take (2 + 2 * c.args.width) l) (c.set_le-2.ensures.after ∙ ap (λ (l : List ℕ). wrote (2 + c.args.width) (le_bytes c.args.width c.args.right) l) c.set_le.ensures.after) ∙ links_at c.args.width c.args.hash c.args.left c.args.right _
