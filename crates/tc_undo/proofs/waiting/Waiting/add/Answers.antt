use Rattle.std.proofs.Common.{◌+◌, length, take, ap, ◌∙◌, List, ℕ, rules}
use Rattle.tc_undo.proofs.Ahead.{text_more}
use Rattle.tc_undo.proofs.waiting.Waiting.add.Goals as goal

pub returns : goal.returns
returns c = ap (λ (l : List ℕ). take (c.args.self.now.size + length c.args.bytes.now) l) c.put_at.ensures ∙ text_more c.args.self.now.size c.args.self.now.room c.args.bytes.now (search rules)
