use Rattle.std.proofs.Common.{arith}
use Rattle.tc_base.specs.Vnum.{two_front}
use Rattle.bt_page.proofs.Runs.{exact_found, exact_none_at, err_handed}
use Rattle.bt_page.proofs.AtFronts.{TwoFit, two_bytes, exact_two, leaf_none, leaf_bad, leaf_found, leaf_only}
use Rattle.bt_page.proofs.reading.read_leaf.Goals as goal

pub returns-in_default-clause-bad : goal.returns-in_default-clause-bad
returns-in_default-clause-bad c = λ _. leaf_none c.args.bytes.now (exact_none_at TwoFit two_bytes two_front exact_two c.args.bytes.now _ c.in_default.ensures)

pub returns-in_err-items-clause-bad : goal.returns-in_err-items-clause-bad
returns-in_err-items-clause-bad c = λ h.
    leaf_bad c.args.bytes.now c.in-Ok.rest.now (c.in-Ok.prev, c.in-Ok.next) (exact_found TwoFit two_bytes two_front exact_two c.args.bytes.now (c.in-Ok.prev, c.in-Ok.next) c.in-Ok.rest.now (λ i. omega (arith, c.type_inv.bytes i)) c.in-Ok.ensures)
    (c.in_err-items.ensures.bad (err_handed c.from_residual.result c.in_err-items.field-0.0 _ c.from_residual.ensures.1 h))

pub returns-clause-found : goal.returns-clause-found
returns-clause-found c =
    leaf_found c.args.bytes.now c.in-Ok.rest.now c.in-Ok.prev c.in-Ok.next _ (exact_found TwoFit two_bytes two_front exact_two c.args.bytes.now (c.in-Ok.prev, c.in-Ok.next) c.in-Ok.rest.now (λ i. omega (arith, c.type_inv.bytes i)) c.in-Ok.ensures)
    c.in_ok-items.ensures.found.0 c.in_ok-items.ensures.found.1

pub returns-clause-only : goal.returns-clause-only
returns-clause-only c = λ m g.
    leaf_only c.args.bytes.now _ m
    (leaf_found c.args.bytes.now c.in-Ok.rest.now c.in-Ok.prev c.in-Ok.next _ (exact_found TwoFit two_bytes two_front exact_two c.args.bytes.now (c.in-Ok.prev, c.in-Ok.next) c.in-Ok.rest.now (λ i. omega (arith, c.type_inv.bytes i)) c.in-Ok.ensures)
    c.in_ok-items.ensures.found.0 c.in_ok-items.ensures.found.1) g
