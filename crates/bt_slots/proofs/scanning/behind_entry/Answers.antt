use Rattle.std.proofs.Common.{◌∙◌, ℕ, ap, sym, arith, List, ◌∷◌, ◌++◌, get_or}
use Rattle.std.proofs.lemmas.List.{drop_more, take_rest}
use Rattle.tc_base.specs.Vnum.{vnum, vnum_front}
use Rattle.tc_base.proofs.ExactNumbers.{exact_vnum}
use Rattle.bt_page.proofs.Runs.{exact_found}
use Rattle.bt_page.proofs.AtFronts.{OneFits}
use Rattle.bt_slots.proofs.scanning.behind_entry.Goals as goal

pub behind_key-requires-clause-are : goal.behind_key-requires-clause-are
behind_key-requires-clause-are c =
    let rest : List ℕ = c.in-Ok.rest.now in
    let f = exact_found OneFits vnum vnum_front exact_vnum c.args.bytes.now c.in-Ok._child rest (λ i. omega (arith, c.type_inv.bytes i)) c.in-Ok.ensures in
    let first = drop_more rest 0 0 (omega arith) ∙ ap (λ (l : List ℕ). get_or rest 0 0 ∷ l) (sym (take_rest rest 1)) in
    (c.in-Ok._child, f.fits, f.is ∙ ap (λ (l : List ℕ). vnum c.in-Ok._child ++ l) first)
