use Rattle.std.proofs.Common.{arith}
use Rattle.tc_base.specs.Vnum.{vnum, vnum_front}
use Rattle.tc_base.proofs.ExactNumbers.{exact_vnum}
use Rattle.bt_page.proofs.Runs.{exact_found, exact_none_at, err_handed}
use Rattle.bt_page.proofs.AtFronts.{OneFits, node_none, node_bad, node_found, node_only}
use Rattle.bt_page.proofs.reading.read_node.Goals as goal

pub returns-in_default-clause-bad : goal.returns-in_default-clause-bad
returns-in_default-clause-bad c = λ _. node_none c.args.bytes.now (exact_none_at OneFits vnum vnum_front exact_vnum c.args.bytes.now _ c.in_default.ensures)

pub returns-in_err-entries-clause-bad : goal.returns-in_err-entries-clause-bad
returns-in_err-entries-clause-bad c = λ h.
    node_bad c.args.bytes.now c.in-Ok.rest.now c.in-Ok.heir (exact_found OneFits vnum vnum_front exact_vnum c.args.bytes.now c.in-Ok.heir c.in-Ok.rest.now (λ i. omega (arith, c.type_inv.bytes i)) c.in-Ok.ensures)
    (c.in_err-entries.ensures.bad (err_handed c.from_residual.result c.in_err-entries.field-0.0 _ c.from_residual.ensures.1 h))

pub returns-clause-found : goal.returns-clause-found
returns-clause-found c =
    node_found c.args.bytes.now c.in-Ok.rest.now c.in-Ok.heir _ (exact_found OneFits vnum vnum_front exact_vnum c.args.bytes.now c.in-Ok.heir c.in-Ok.rest.now (λ i. omega (arith, c.type_inv.bytes i)) c.in-Ok.ensures)
    c.in_ok-entries.ensures.found.0 c.in_ok-entries.ensures.found.1

pub returns-clause-only : goal.returns-clause-only
returns-clause-only c = λ m g.
    node_only c.args.bytes.now _ m
    (node_found c.args.bytes.now c.in-Ok.rest.now c.in-Ok.heir _ (exact_found OneFits vnum vnum_front exact_vnum c.args.bytes.now c.in-Ok.heir c.in-Ok.rest.now (λ i. omega (arith, c.type_inv.bytes i)) c.in-Ok.ensures)
    c.in_ok-entries.ensures.found.0 c.in_ok-entries.ensures.found.1) g
