use Rattle.std.proofs.Common.{arith}
use Rattle.std.proofs.lemmas.Result.{IfOk-weaker, on_err_weaker}
use Rattle.tc_base.specs.Vnum.{two_front}
use Rattle.bt_page.proofs.Runs.{exact_found, exact_none_at}
use Rattle.bt_page.proofs.AtFronts.{TwoFit, two_bytes, exact_two, leaf_none, leaf_bad}
use Rattle.bt_slots.proofs.BareReads.{leaf_counted}
use Rattle.bt_slots.proofs.scanning.leaf_count.Goals as goal

pub returns-in_default-clause-bad : goal.returns-in_default-clause-bad
returns-in_default-clause-bad c = leaf_none c.args.bytes.now (exact_none_at TwoFit two_bytes two_front exact_two c.args.bytes.now _ c.in_default.ensures)

pub returns-clause-bad : goal.returns-clause-bad
returns-clause-bad c =
    on_err_weaker _ (leaf_bad c.args.bytes.now c.in-Ok.items.now (c.in-Ok._prev, c.in-Ok._next) (exact_found TwoFit two_bytes two_front exact_two c.args.bytes.now _ c.in-Ok.items.now (λ i. omega (arith, c.type_inv.bytes i)) c.in-Ok.ensures)) c.count_items.ensures.bad

pub returns-clause-found : goal.returns-clause-found
returns-clause-found c =
    let f = exact_found TwoFit two_bytes two_front exact_two c.args.bytes.now _ c.in-Ok.items.now (λ i. omega (arith, c.type_inv.bytes i)) c.in-Ok.ensures in
    IfOk-weaker _ _ _ (λ n xs. leaf_counted c.args.bytes.now c.in-Ok.items.now n c.in-Ok._prev c.in-Ok._next f xs) c.count_items.ensures.found
