use Rattle.std.proofs.Common.{◌∙◌, List, ℕ, ap}
use Rattle.tc_model.specs.Texts.{is_among}
use Rattle.td_token.proofs.Coming.{among_keys}
use Rattle.td_token.proofs.seen.Seen.has.Goals as goal

pub returns : goal.returns
returns c = c.contains.ensures ∙ (among_keys (λ k. k.items) c.args.text.now c.self.inside.texts.keys ∙ ap (λ (r : List (List ℕ)). is_among c.args.text.now r) c.self.view_is)
