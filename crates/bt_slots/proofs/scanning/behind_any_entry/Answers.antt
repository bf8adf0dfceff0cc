use Rattle.std.proofs.Common.{arith}
use Rattle.std.proofs.lemmas.Result.{on_err_weaker}
use Rattle.tc_base.specs.Vnum.{two_front}
use Rattle.bt_page.proofs.Runs.{exact_found, exact_none_at, if_ok_both}
use Rattle.bt_page.proofs.AtFronts.{TwoFit, two_bytes, exact_two, entry_none, entry_short}
use Rattle.bt_slots.proofs.Scanned.{entry_scanned}
use Rattle.bt_slots.proofs.scanning.behind_any_entry.Goals as goal

pub returns-in_default-clause-bad : goal.returns-in_default-clause-bad
returns-in_default-clause-bad c = entry_none c.args.bytes.now (exact_none_at TwoFit two_bytes two_front exact_two c.args.bytes.now _ c.in_default.ensures)

pub returns-clause-bad : goal.returns-clause-bad
returns-clause-bad c = on_err_weaker _ (entry_short c.args.bytes.now c.in-Ok.rest.now _ c.in-Ok.size (exact_found TwoFit two_bytes two_front exact_two c.args.bytes.now _ c.in-Ok.rest.now (λ i. omega (arith, c.type_inv.bytes i)) c.in-Ok.ensures)) c.behind.ensures.bad

pub returns-clause-found : goal.returns-clause-found
returns-clause-found c =
    let f = exact_found TwoFit two_bytes two_front exact_two c.args.bytes.now _ c.in-Ok.rest.now (λ i. omega (arith, c.type_inv.bytes i)) c.in-Ok.ensures in
    if_ok_both _ (λ _ long found. entry_scanned c.args.bytes.now c.in-Ok.rest.now _ c.in-Ok._child c.in-Ok.size f long found) c.behind.ensures.long c.behind.ensures.found
