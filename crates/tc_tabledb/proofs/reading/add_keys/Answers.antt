use Rattle.std.proofs.Common.{◌∙◌, List, ℕ, ap, map, subst}
use Rattle.tc_engine.specs.Changes.{first_of}
use Rattle.tc_engine.specs.Rows.{Adds, item_row}
use Rattle.tc_treedb.specs.Taking.{beginning}
use Rattle.tc_tabledb.proofs.reading.add_keys.Goals as goal

pub returns-clause-rows : goal.returns-clause-rows
returns-clause-rows g c = λ rows h.
    let is = c.as_slice.ensures ∙ (c.in_ok-found.ensures ∙ ap (λ (ks : List (List ℕ)). first_of c.args.most (beginning c.args.prefix.now ks)) (c.in_ok-all.ensures.value rows h)) in
    subst (λ (xs : List (List ℕ)). Adds c.args.into.now c.add_texts.new.rows (map item_row xs)) is c.in_ok-add_texts.ensures.rows
