use Rattle.std.proofs.Common.{ap, ◌∙◌, ◌++◌, List, ℕ}
use Rattle.std.proofs.lemmas.Result.{on_ok_weaker}
use Rattle.bt_page.proofs.Hex.{cut_at}
use Rattle.bt_page.proofs.keys.page_key.Goals as goal

pub returns-clause-ok : goal.returns-clause-ok
returns-clause-ok c = on_ok_weaker c.append.result (λ e. e ∙ ap (λ (l : List ℕ). c.args.into.now ++ l) (cut_at 17 _ _ c.key_at_end-at.ensures.long ∙ c.key_at_end-at.ensures.key)) c.append.ensures.ok
