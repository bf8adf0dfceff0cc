use Rattle.std.proofs.Common.{◌≡◌, ◌∙◌, ◌-◌, List, Some, ap, arith, length, sym}
use Rattle.bt_page.specs.declared.page.Item.{Item}
use Rattle.bt_check.specs.Leaves.{key_behind, last_key}
use Rattle.bt_check.proofs.Rests.{first_more, last_none, rest_more, rest_none}
use Rattle.bt_check.proofs.ordering.last_key.Goals as goal

pub returns-then-count-eq0 : goal.returns-then-count-eq0
returns-then-count-eq0 c = last_none c.args.leaf.now.items (omega (arith, c.len-count.ensures, c.if-count-eq0.true))

pub loop-i-init : goal.loop-i-init
loop-i-init c = ap last_key (first_more _ c.items.result.now _ c.args.leaf.now.items _ c.items.ensures.read (omega (arith, c.len-count.ensures, c.if-count-eq0.false)) c.next_item.ensures)

pub loop-i-preserved : goal.loop-i-preserved
loop-i-preserved c = c.loop-i.invariant ∙ ap (λ (xs : List Item). Some (key_behind c.loop-i.last.now xs)) (rest_more _ c.loop-i.i c.loop-i.rest.now _ _ (omega (arith, c.loop-i-test.true, c.len-count.ensures)) c.next_item-in-loop-i.ensures)

pub returns : goal.returns
returns c =
    let end : length c.args.leaf.now.items - c.loop-i.i ≡ 0 = omega (arith, c.loop-i-test.false, c.len-count.ensures) in
    sym (c.loop-i.invariant ∙ ap (λ (xs : List Item). Some (key_behind c.loop-i.last.now xs)) (rest_none _ c.loop-i.i c.loop-i.rest.now end))
