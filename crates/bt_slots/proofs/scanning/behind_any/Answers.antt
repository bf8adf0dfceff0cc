use Rattle.std.proofs.Common.{arith}
use Rattle.std.proofs.lemmas.Result.{IfOk-weaker, on_err_weaker}
use Rattle.tc_base.specs.Vnum.{three_front}
use Rattle.bt_page.proofs.Runs.{exact_found, exact_none_at, on_err_any}
use Rattle.bt_page.proofs.AtFronts.{ThreeFit, three_bytes, exact_three, item_none, item_short_key, item_short_value, item_short_further}
use Rattle.bt_slots.proofs.Scanned.{item_scanned, taken, taken_long}
use Rattle.bt_slots.proofs.scanning.behind_any.Goals as goal

pub returns-in_default-clause-bad : goal.returns-in_default-clause-bad
returns-in_default-clause-bad c = item_none c.args.bytes.now (exact_none_at ThreeFit three_bytes three_front exact_three c.args.bytes.now _ c.in_default.ensures)

pub returns-in_err-rest-clause-bad : goal.returns-in_err-rest-clause-bad
returns-in_err-rest-clause-bad c = on_err_any _ (item_short_key c.args.bytes.now c.in-Ok.rest.now c.in-Ok.key c.in-Ok.first c.in-Ok.more (exact_found ThreeFit three_bytes three_front exact_three c.args.bytes.now (c.in-Ok.key, (c.in-Ok.first, c.in-Ok.more)) c.in-Ok.rest.now (λ i. omega (arith, c.type_inv.bytes i)) c.in-Ok.ensures) c.in_err-rest.ensures.bad)

pub returns-in_err-rest-2-clause-bad : goal.returns-in_err-rest-2-clause-bad
returns-in_err-rest-2-clause-bad c =
    on_err_any _ (item_short_value c.args.bytes.now c.in-Ok.rest.now _ c.in_ok-rest.rest.now c.in-Ok.key c.in-Ok.first c.in-Ok.more (exact_found ThreeFit three_bytes three_front exact_three c.args.bytes.now (c.in-Ok.key, (c.in-Ok.first, c.in-Ok.more)) c.in-Ok.rest.now (λ i. omega (arith, c.type_inv.bytes i)) c.in-Ok.ensures)
    (taken_long _ _ c.in_ok-rest.ensures.long) (taken _ _ _ c.in_ok-rest.ensures.found) c.in_err-rest-2.ensures.bad)

pub returns-clause-bad : goal.returns-clause-bad
returns-clause-bad c =
    on_err_weaker _ (item_short_further c.args.bytes.now c.in-Ok.rest.now _ c.in_ok-rest.rest.now _ c.in_ok-rest-2.rest.now c.in-Ok.key c.in-Ok.first c.in-Ok.more (exact_found ThreeFit three_bytes three_front exact_three c.args.bytes.now (c.in-Ok.key, (c.in-Ok.first, c.in-Ok.more)) c.in-Ok.rest.now (λ i. omega (arith, c.type_inv.bytes i)) c.in-Ok.ensures)
    (taken_long _ _ c.in_ok-rest.ensures.long) (taken _ _ _ c.in_ok-rest.ensures.found) (taken_long _ _ c.in_ok-rest-2.ensures.long) (taken _ _ _ c.in_ok-rest-2.ensures.found)) c.behind_values.ensures.bad

pub returns-clause-found : goal.returns-clause-found
returns-clause-found c =
    let f = exact_found ThreeFit three_bytes three_front exact_three c.args.bytes.now (c.in-Ok.key, (c.in-Ok.first, c.in-Ok.more)) c.in-Ok.rest.now (λ i. omega (arith, c.type_inv.bytes i)) c.in-Ok.ensures in
    IfOk-weaker _ _ _ (λ _ more. item_scanned c.args.bytes.now c.in-Ok.rest.now c.in_ok-rest.rest.now c.in_ok-rest-2.rest.now _ c.in-Ok.key c.in-Ok.first c.in-Ok.more f
    c.in_ok-rest.ensures.long c.in_ok-rest.ensures.found c.in_ok-rest-2.ensures.long c.in_ok-rest-2.ensures.found more) c.behind_values.ensures.found
