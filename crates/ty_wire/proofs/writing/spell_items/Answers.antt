use Rattle.std.proofs.Common.{◌++◌, List, ℕ, length, ap, ◌∙◌, arith}
use Rattle.ty_wire.specs.Spelling.{size}
use Rattle.ty_wire.proofs.ItemLemmas.{item_short, item_more}
use Rattle.ty_wire.proofs.writing.spell_items.Goals as goal

pub spell_text-requires : goal.spell_text-requires
spell_text-requires c =
    let short = item_short c.args.items.now c.loop-item.item-index c.item-item.result c.item-item.result c.loop-item-test.true c.item-item.is in
    omega (arith, short, c.requires, ap length c.as_slice.ensures)

pub loop-item-preserved : goal.loop-item-preserved
loop-item-preserved c =
    item_more _ _ _ c.args.items.now c.loop-item.item-index c.item-item.result c.loop-item-test.true c.item-item.is c.loop-item.invariant
    (c.in_ok-spell_text.ensures.ok ∙ ap (λ (l : List ℕ). c.loop-item.into ++ (size l ++ l)) c.as_slice.ensures)
