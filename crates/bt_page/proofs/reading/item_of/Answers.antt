use Rattle.std.proofs.Common.{arith, ◌∙◌, ◌≡◌, ap, sym, [], ◌∷◌, ◌++◌, List, ℕ, subst}
use Rattle.bt_page.specs.Pages.{ItemFits, item_bytes}
use Rattle.bt_page.specs.Spelled.{AtFront}
use Rattle.tc_base.specs.Vnum.{three_front}
use Rattle.bt_page.proofs.Runs.{exact_found, exact_none_at, err_handed}
use Rattle.bt_page.proofs.AtFronts.{ThreeFit, three_bytes, exact_three, item_none, item_short_key, item_short_value, item_short_further, item_found}
use Rattle.bt_page.proofs.reading.item_of.Goals as goal

pub returns-in_default-clause-bad : goal.returns-in_default-clause-bad
returns-in_default-clause-bad c = λ _. item_none c.args.bytes.now (exact_none_at ThreeFit three_bytes three_front exact_three c.args.bytes.now _ c.in_default.ensures)

pub returns-in_err-key-clause-bad : goal.returns-in_err-key-clause-bad
returns-in_err-key-clause-bad c = λ h.
    item_short_key c.args.bytes.now c.in-Ok.rest.now c.in-Ok.key_size c.in-Ok.size c.in-Ok.more
    (exact_found ThreeFit three_bytes three_front exact_three c.args.bytes.now (c.in-Ok.key_size, (c.in-Ok.size, c.in-Ok.more)) c.in-Ok.rest.now (λ i. omega (arith, c.type_inv.bytes i)) c.in-Ok.ensures)
    (c.in_err-key.ensures.bad (err_handed c.from_residual.result c.in_err-key.field-0.0 _ c.from_residual.ensures.1 h))

pub returns-in_err-first-clause-bad : goal.returns-in_err-first-clause-bad
returns-in_err-first-clause-bad c = λ h.
    item_short_value c.args.bytes.now c.in-Ok.rest.now _ _ c.in-Ok.key_size c.in-Ok.size c.in-Ok.more
    (exact_found ThreeFit three_bytes three_front exact_three c.args.bytes.now (c.in-Ok.key_size, (c.in-Ok.size, c.in-Ok.more)) c.in-Ok.rest.now (λ i. omega (arith, c.type_inv.bytes i)) c.in-Ok.ensures)
    c.in_ok-key.ensures.long c.in_ok-key.ensures.found (c.in_err-first.ensures.bad (err_handed c.from_residual-in_err-first.result c.in_err-first.field-0.0 _ c.from_residual-in_err-first.ensures.1 h))

pub returns-in_err-rest-clause-bad : goal.returns-in_err-rest-clause-bad
returns-in_err-rest-clause-bad c = λ h.
    item_short_further c.args.bytes.now c.in-Ok.rest.now _ _ _ _ c.in-Ok.key_size c.in-Ok.size c.in-Ok.more
    (exact_found ThreeFit three_bytes three_front exact_three c.args.bytes.now (c.in-Ok.key_size, (c.in-Ok.size, c.in-Ok.more)) c.in-Ok.rest.now (λ i. omega (arith, c.type_inv.bytes i)) c.in-Ok.ensures)
    c.in_ok-key.ensures.long c.in_ok-key.ensures.found c.in_ok-first.ensures.long c.in_ok-first.ensures.found (c.in_err-rest.ensures.bad (err_handed c.from_residual-in_err-rest.result c.in_err-rest.field-0.0 _ c.from_residual-in_err-rest.ensures.1 h))

pub returns-clause-found : goal.returns-clause-found
returns-clause-found c =
    let v = c.in_ok-rest.ensures.found in
    let pushed : c.push.new.self ≡ c.in_ok-first.first ∷ [] = c.in_ok-push.ensures.ok ∙ ap (λ (l : List (List ℕ)). l ++ c.in_ok-first.first ∷ []) c.new-values.ensures in
    let values : c.values_of.new.values ≡ c.in_ok-first.first ∷ v.0 = v.1 ∙ ap (λ (l : List (List ℕ)). l ++ v.0) pushed in
    subst (λ (vs : List (List ℕ)). AtFront ItemFits item_bytes c.args.bytes.now (record { key = c.in_ok-key.key; values = vs }) c.in_ok-rest.rest.now) (sym values)
    (item_found c.args.bytes.now c.in-Ok.rest.now c.in_ok-key.key c.in_ok-key.rest.now c.in_ok-first.first c.in_ok-first.rest.now c.in_ok-rest.rest.now v.0 c.in-Ok.key_size c.in-Ok.size c.in-Ok.more
    (exact_found ThreeFit three_bytes three_front exact_three c.args.bytes.now (c.in-Ok.key_size, (c.in-Ok.size, c.in-Ok.more)) c.in-Ok.rest.now (λ i. omega (arith, c.type_inv.bytes i)) c.in-Ok.ensures)
    c.in_ok-key.ensures.long c.in_ok-key.ensures.found c.in_ok-first.ensures.long c.in_ok-first.ensures.found v.2 v.3 v.4)
