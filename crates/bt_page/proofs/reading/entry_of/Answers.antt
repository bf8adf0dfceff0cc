use Rattle.std.proofs.Common.{arith}
use Rattle.tc_base.specs.Vnum.{two_front}
use Rattle.bt_page.proofs.Runs.{exact_found, exact_none_at, err_handed}
use Rattle.bt_page.proofs.AtFronts.{TwoFit, two_bytes, exact_two, entry_found, entry_none, entry_short}
use Rattle.bt_page.proofs.reading.entry_of.Goals as goal

pub returns-in_default-clause-bad : goal.returns-in_default-clause-bad
returns-in_default-clause-bad c = λ _. entry_none c.args.bytes.now (exact_none_at TwoFit two_bytes two_front exact_two c.args.bytes.now _ c.in_default.ensures)

pub returns-in_err-key-clause-bad : goal.returns-in_err-key-clause-bad
returns-in_err-key-clause-bad c = λ h.
    entry_short c.args.bytes.now c.in-Ok.rest.now c.in-Ok.child c.in-Ok.size (exact_found TwoFit two_bytes two_front exact_two c.args.bytes.now (c.in-Ok.child, c.in-Ok.size) c.in-Ok.rest.now (λ i. omega (arith, c.type_inv.bytes i)) c.in-Ok.ensures)
    (c.in_err-key.ensures.bad (err_handed c.from_residual.result c.in_err-key.field-0.0 _ c.from_residual.ensures.1 h))

pub returns-clause-found : goal.returns-clause-found
returns-clause-found c =
    entry_found c.args.bytes.now c.in-Ok.rest.now _ _ c.in-Ok.child c.in-Ok.size (exact_found TwoFit two_bytes two_front exact_two c.args.bytes.now (c.in-Ok.child, c.in-Ok.size) c.in-Ok.rest.now (λ i. omega (arith, c.type_inv.bytes i)) c.in-Ok.ensures) c.in_ok-key.ensures.long c.in_ok-key.ensures.found
