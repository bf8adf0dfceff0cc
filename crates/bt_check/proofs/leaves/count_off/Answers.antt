use Rattle.std.proofs.Common.{◌≡◌, ◌∙◌, ◌-◌, List, ap, arith, length, sym}
use Rattle.std.specs.List.{flat_map}
use Rattle.bt_page.specs.declared.page.Item.{Item}
use Rattle.bt_rows.specs.Rules.{item_pairs}
use Rattle.bt_check.specs.Leaves.{less}
use Rattle.bt_check.proofs.Rests.{count_more, rest_all, rest_more, rest_none}
use Rattle.bt_check.proofs.Seen.{count_none}
use Rattle.bt_check.proofs.leaves.count_off.Goals as goal

pub loop-i-init : goal.loop-i-init
loop-i-init c = ap (λ (xs : List Item). less c.args.left (length (flat_map item_pairs xs))) (sym (rest_all _ c.items-rest.result.now _ c.items-rest.ensures.read))

pub loop-i-preserved : goal.loop-i-preserved
loop-i-preserved c =
    count_more _ c.loop-i.left c.less.result c.less-left.result _ _ _ _ _ _ c.loop-i.invariant (rest_more _ c.loop-i.i c.loop-i.rest.now _ _ (omega (arith, c.loop-i-test.true, c.len-i-end.ensures)) c.next_item.ensures) c.less.ensures c.less-left.ensures

pub returns : goal.returns
returns c =
    let end : length c.args.leaf.now.items - c.loop-i.i ≡ 0 = omega (arith, c.loop-i-test.false, c.len-i-end.ensures) in
    let rest = ap (λ (xs : List Item). less c.loop-i.left (length (flat_map item_pairs xs))) (rest_none _ c.loop-i.i c.loop-i.rest.now end) in
    count_none c.loop-i.left ∙ sym rest ∙ sym c.loop-i.invariant
