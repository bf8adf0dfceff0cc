use Rattle.std.proofs.Common.{arith, ap, length, length-append}
use Rattle.std.proofs.lemmas.Result.{IfOk-weaker}
use Rattle.tc_base.specs.Vnum.{vnum, vnum_front}
use Rattle.tc_base.proofs.ExactNumbers.{exact_vnum}
use Rattle.bt_page.proofs.Runs.{exact_found, exact_none_at}
use Rattle.bt_page.proofs.AtFronts.{OneFits, node_none, node_bad}
use Rattle.bt_slots.proofs.Scanned.{node_scanned}
use Rattle.bt_slots.proofs.scanning.entry_starts.Goals as goal

pub returns-in_default-clause-bad : goal.returns-in_default-clause-bad
returns-in_default-clause-bad c = λ _. node_none c.args.bytes.now (exact_none_at OneFits vnum vnum_front exact_vnum c.args.bytes.now _ c.in_default.ensures)

pub starts_of_entries-requires : goal.starts_of_entries-requires
starts_of_entries-requires c =
    let f = (exact_found OneFits vnum vnum_front exact_vnum c.args.bytes.now _ c.in-Ok.entries.now (λ i. omega (arith, c.type_inv.bytes i)) c.in-Ok.ensures) in
    omega (arith, ap length f.is, length-append (vnum c.in-Ok._heir) c.in-Ok.entries.now)

pub returns-clause-bad : goal.returns-clause-bad
returns-clause-bad c = λ h.
    node_bad c.args.bytes.now c.in-Ok.entries.now _ (exact_found OneFits vnum vnum_front exact_vnum c.args.bytes.now _ c.in-Ok.entries.now (λ i. omega (arith, c.type_inv.bytes i)) c.in-Ok.ensures) (c.starts_of_entries.ensures.bad h)

pub returns-clause-found : goal.returns-clause-found
returns-clause-found c =
    let f = exact_found OneFits vnum vnum_front exact_vnum c.args.bytes.now _ c.in-Ok.entries.now (λ i. omega (arith, c.type_inv.bytes i)) c.in-Ok.ensures in
    IfOk-weaker _ _ _ (λ _ starts. node_scanned c.args.bytes.now c.in-Ok.entries.now _ c.in-Ok._heir f starts) c.starts_of_entries.ensures.found
