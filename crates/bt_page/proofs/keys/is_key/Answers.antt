use Rattle.std.proofs.Common.{sym, ◌∙◌}
use Rattle.std.proofs.lemmas.Slice.Eq.{bytes_eq-Decides}
use Rattle.bt_page.proofs.Hex.{cut_at}
use Rattle.bt_page.proofs.keys.is_key.Goals as goal

pub returns : goal.returns
returns c =
    let cut = cut_at 17 _ _ c.key_at_end-at.ensures.long in
    let is = cut ∙ c.key_at_end-at.ensures.key in
    let same = bytes_eq-Decides c.args.key.now _ in
    (λ t. same.0 (sym c.eq.ensures ∙ t) ∙ is, λ e. c.eq.ensures ∙ same.1 (e ∙ sym is))
