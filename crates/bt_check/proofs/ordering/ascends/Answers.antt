use Rattle.std.proofs.Common.{◌≡◌, ◌∙◌, ◌-◌, arith, length, refl, sym}
use Rattle.bt_rows.specs.Orders.{before_by}
use Rattle.bt_check.proofs.Orders.{transitive}
use Rattle.bt_check.proofs.Rests.{ascends_none, ascends_first, ascends_more, ascends_fails, ascends_read, rest_more, rest_none}
use Rattle.bt_check.proofs.ordering.ascends.Goals as goal

pub returns-then-count-eq0 : goal.returns-then-count-eq0
returns-then-count-eq0 g c = (λ _. ascends_none (before_by g.O.Order.cmp) c.args.leaf.now.items (omega (arith, c.len-count.ensures, c.if-count-eq0.true)), λ _. refl)

pub loop-i-init : goal.loop-i-init
loop-i-init g c = ascends_first (before_by g.O.Order.cmp) _ c.items.result.now _ c.args.leaf.now.items _ c.items.ensures.read (omega (arith, c.len-count.ensures, c.if-count-eq0.false)) c.next_item.ensures

pub returns-then-not-is_before : goal.returns-then-not-is_before
returns-then-not-is_before g c =
    let more = rest_more _ c.loop-i.i c.loop-i.rest.now _ _ (omega (arith, c.loop-i-test.true, c.len-count.ensures)) c.next_item-in-loop-i.ensures in
    (λ t. absurd cc, λ h. absurd (ascends_fails (before_by g.O.Order.cmp) c.args.leaf.now.items _ _ c.loop-i.last.now _ c.loop-i.invariant more (sym c.if-not-is_before.ensures) h))

pub loop-i-preserved : goal.loop-i-preserved
loop-i-preserved g c =
    let more = rest_more _ c.loop-i.i c.loop-i.rest.now _ _ (omega (arith, c.loop-i-test.true, c.len-count.ensures)) c.next_item-in-loop-i.ensures in
    ascends_more (before_by g.O.Order.cmp) (transitive g.O.Order.cmp g.met.O.Order.total) c.args.leaf.now.items _ _ c.loop-i.last.now _ c.loop-i.invariant more (sym c.if-not-is_before.ensures)

pub returns : goal.returns
returns g c =
    let end : length c.args.leaf.now.items - c.loop-i.i ≡ 0 = omega (arith, c.loop-i-test.false, c.len-count.ensures) in
    (λ _. ascends_read (before_by g.O.Order.cmp) c.args.leaf.now.items _ c.loop-i.last.now c.loop-i.invariant (rest_none _ c.loop-i.i c.loop-i.rest.now end), λ _. refl)
