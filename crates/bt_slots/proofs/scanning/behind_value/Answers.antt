use Rattle.std.proofs.Common.{arith}
use Rattle.std.proofs.lemmas.Result.{on_err_weaker}
use Rattle.tc_base.specs.Vnum.{vnum, vnum_front}
use Rattle.tc_base.proofs.ExactNumbers.{exact_vnum}
use Rattle.bt_page.proofs.Runs.{exact_found, exact_none_at, if_ok_both}
use Rattle.bt_page.proofs.AtFronts.{OneFits, value_none, value_short}
use Rattle.bt_slots.proofs.Scanned.{value_scanned}
use Rattle.bt_slots.proofs.scanning.behind_value.Goals as goal

pub returns-in_default-clause-bad : goal.returns-in_default-clause-bad
returns-in_default-clause-bad c = value_none c.args.bytes.now (exact_none_at OneFits vnum vnum_front exact_vnum c.args.bytes.now _ c.in_default.ensures)

pub returns-clause-found : goal.returns-clause-found
returns-clause-found c =
    let f = exact_found OneFits vnum vnum_front exact_vnum c.args.bytes.now _ c.in-Ok.rest.now (λ i. omega (arith, c.type_inv.bytes i)) c.in-Ok.ensures in
    if_ok_both _ (λ _ long found. value_scanned c.args.bytes.now c.in-Ok.rest.now _ c.in-Ok.size f long found) c.behind.ensures.long c.behind.ensures.found

pub returns-clause-bad : goal.returns-clause-bad
returns-clause-bad c = on_err_weaker _ (value_short c.args.bytes.now c.in-Ok.rest.now c.in-Ok.size (exact_found OneFits vnum vnum_front exact_vnum c.args.bytes.now _ c.in-Ok.rest.now (λ i. omega (arith, c.type_inv.bytes i)) c.in-Ok.ensures)) c.behind.ensures.bad
