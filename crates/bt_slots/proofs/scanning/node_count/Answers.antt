use Rattle.std.proofs.Common.{arith}
use Rattle.std.proofs.lemmas.Result.{IfOk-weaker, on_err_weaker}
use Rattle.tc_base.specs.Vnum.{vnum, vnum_front}
use Rattle.tc_base.proofs.ExactNumbers.{exact_vnum}
use Rattle.bt_page.proofs.Runs.{exact_found, exact_none_at}
use Rattle.bt_page.proofs.AtFronts.{OneFits, node_none, node_bad}
use Rattle.bt_slots.proofs.BareReads.{node_counted}
use Rattle.bt_slots.proofs.scanning.node_count.Goals as goal

pub returns-in_default-clause-bad : goal.returns-in_default-clause-bad
returns-in_default-clause-bad c = node_none c.args.bytes.now (exact_none_at OneFits vnum vnum_front exact_vnum c.args.bytes.now _ c.in_default.ensures)

pub returns-clause-bad : goal.returns-clause-bad
returns-clause-bad c =
    on_err_weaker _ (node_bad c.args.bytes.now c.in-Ok.entries.now c.in-Ok._heir (exact_found OneFits vnum vnum_front exact_vnum c.args.bytes.now _ c.in-Ok.entries.now (λ i. omega (arith, c.type_inv.bytes i)) c.in-Ok.ensures)) c.count_entries.ensures.bad

pub returns-clause-found : goal.returns-clause-found
returns-clause-found c =
    let f = exact_found OneFits vnum vnum_front exact_vnum c.args.bytes.now _ c.in-Ok.entries.now (λ i. omega (arith, c.type_inv.bytes i)) c.in-Ok.ensures in
    IfOk-weaker _ _ _ (λ n xs. node_counted c.args.bytes.now c.in-Ok.entries.now n c.in-Ok._heir f xs) c.count_entries.ensures.found
