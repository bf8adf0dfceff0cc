use Rattle.std.proofs.Common.{◌≡◌, false, true, ap, sym, ◌∙◌}
use Rattle.bt_page.specs.Keys.{key_of}
use Rattle.bt_page.proofs.keys.page_id.Goals as goal

pub returns-else-is_key-clause-again : goal.returns-else-is_key-clause-again
returns-else-is_key-clause-again c = λ id lt e. let never : false ≡ true = c.if-is_key.ensures.1 (e ∙ ap key_of (sym (c.id_in-id.ensures.id id lt e))) in absurd cc
