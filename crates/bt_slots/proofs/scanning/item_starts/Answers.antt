use Rattle.std.proofs.Common.{arith, ap, length, length-append}
use Rattle.std.proofs.lemmas.Result.{IfOk-weaker}
use Rattle.tc_base.specs.Vnum.{two_front}
use Rattle.bt_page.proofs.Runs.{exact_found, exact_none_at}
use Rattle.bt_page.proofs.AtFronts.{TwoFit, two_bytes, exact_two, leaf_none, leaf_bad}
use Rattle.bt_slots.proofs.Scanned.{leaf_scanned}
use Rattle.bt_slots.proofs.scanning.item_starts.Goals as goal

pub returns-in_default-clause-bad : goal.returns-in_default-clause-bad
returns-in_default-clause-bad c = λ _. leaf_none c.args.bytes.now (exact_none_at TwoFit two_bytes two_front exact_two c.args.bytes.now _ c.in_default.ensures)

pub starts_of_items-requires : goal.starts_of_items-requires
starts_of_items-requires c =
    let f = (exact_found TwoFit two_bytes two_front exact_two c.args.bytes.now _ c.in-Ok.items.now (λ i. omega (arith, c.type_inv.bytes i)) c.in-Ok.ensures) in
    omega (arith, ap length f.is, length-append (two_bytes (c.in-Ok._prev, c.in-Ok._next)) c.in-Ok.items.now)

pub returns-clause-bad : goal.returns-clause-bad
returns-clause-bad c = λ h.
    leaf_bad c.args.bytes.now c.in-Ok.items.now _ (exact_found TwoFit two_bytes two_front exact_two c.args.bytes.now _ c.in-Ok.items.now (λ i. omega (arith, c.type_inv.bytes i)) c.in-Ok.ensures) (c.starts_of_items.ensures.bad h)

pub returns-clause-found : goal.returns-clause-found
returns-clause-found c =
    let f = exact_found TwoFit two_bytes two_front exact_two c.args.bytes.now _ c.in-Ok.items.now (λ i. omega (arith, c.type_inv.bytes i)) c.in-Ok.ensures in
    IfOk-weaker _ _ _ (λ _ starts. leaf_scanned c.args.bytes.now c.in-Ok.items.now _ c.in-Ok._prev c.in-Ok._next f starts) c.starts_of_items.ensures.found
