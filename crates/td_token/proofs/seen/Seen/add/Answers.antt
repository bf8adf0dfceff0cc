use Rattle.std.proofs.Common.{◌∙◌, List, ℕ, map, not, ap}
use Rattle.tc_model.specs.Texts.{is_among, with_text}
use Rattle.td_token.proofs.Coming.{among_keys, inserted}
use Rattle.td_token.proofs.seen.Seen.add.Goals as goal

pub returns-clause-added : goal.returns-clause-added
returns-clause-added c =
    ap (λ ks. map (λ k. k.items) ks) c.in-Ok.ensures.keys ∙ inserted (λ k. k.items) c.self.inside.texts.keys c.in_ok-owned.owned
    ∙ ap (λ (t : List ℕ). with_text (map (λ k. k.items) c.self.inside.texts.keys) t) c.in_ok-owned.ensures.items ∙ ap (λ (r : List (List ℕ)). with_text r c.args.text.now) c.self.view_is

pub returns-clause-new : goal.returns-clause-new
returns-clause-new c =
    c.in-Ok.ensures.added ∙ ap not (among_keys (λ k. k.items) c.in_ok-owned.owned.items c.self.inside.texts.keys
    ∙ ap (λ (t : List ℕ). is_among t (map (λ k. k.items) c.self.inside.texts.keys)) c.in_ok-owned.ensures.items ∙ ap (λ (r : List (List ℕ)). is_among c.args.text.now r) c.self.view_is)
