use Rattle.std.proofs.Common.{arith}
use Rattle.tc_base.specs.Vnum.{vnum, vnum_front}
use Rattle.tc_base.proofs.ExactNumbers.{exact_vnum}
use Rattle.bt_page.proofs.Runs.{exact_found, exact_none_at, if_ok_both}
use Rattle.bt_page.proofs.AtFronts.{OneFits, value_found, value_none, value_short}
use Rattle.bt_page.proofs.reading.value_of.Goals as goal

pub returns-in_default-clause-bad : goal.returns-in_default-clause-bad
returns-in_default-clause-bad c = λ _. value_none c.args.bytes.now (exact_none_at OneFits vnum vnum_front exact_vnum c.args.bytes.now _ c.in_default.ensures)

pub returns-clause-bad : goal.returns-clause-bad
returns-clause-bad c = λ h. value_short c.args.bytes.now c.in-Ok.rest.now c.in-Ok.size (exact_found OneFits vnum vnum_front exact_vnum c.args.bytes.now c.in-Ok.size c.in-Ok.rest.now (λ i. omega (arith, c.type_inv.bytes i)) c.in-Ok.ensures) (c.text_of.ensures.bad h)

pub returns-clause-found : goal.returns-clause-found
returns-clause-found c =
    let f = exact_found OneFits vnum vnum_front exact_vnum c.args.bytes.now c.in-Ok.size c.in-Ok.rest.now (λ i. omega (arith, c.type_inv.bytes i)) c.in-Ok.ensures in
    if_ok_both _ (λ x long found. value_found c.args.bytes.now c.in-Ok.rest.now _ c.in-Ok.size _ f long found) c.text_of.ensures.long c.text_of.ensures.found
