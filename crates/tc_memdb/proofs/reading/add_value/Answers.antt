use Rattle.std.proofs.Common.{◌∙◌, sym, [], ◌∷◌}
use Rattle.tc_base.specs.Lists.{pair}
use Rattle.tc_engine.specs.Rows.{Adds, adds_then, item_row}
use Rattle.tc_memdb.specs.Walked.{pair_items}
use Rattle.tc_memdb.proofs.Along.{walked_more, walked_spent}
use Rattle.tc_memdb.proofs.reading.add_value.Goals as goal

pub returns-clause-walked : goal.returns-clause-walked
returns-clause-walked c = λ most from ps w.
    let adds : Adds c.args.rows.now c.item-2.new.self (item_row c.as_slice.result.now ∷ item_row c.as_slice-2.result.now ∷ []) = adds_then _ _ _ _ _ c.in_ok-item.ensures.added c.in_ok-item-2.ensures.added in
    let these : Adds c.args.rows.now c.item-2.new.self (item_row c.args.key.now ∷ item_row c.args.value.now ∷ []) = rw (c.as_slice.ensures, c.as_slice-2.ensures) at adds in
    rw c.one_less.ensures (walked_more pair_items most c.args.left from _ _ ps (pair c.args.key.now c.args.value.now) w (sym c.is_spent.ensures ∙ c.if-is_spent.false) these)

pub returns-then-is_spent-clause-walked : goal.returns-then-is_spent-clause-walked
returns-then-is_spent-clause-walked c = λ most from ps w. walked_spent pair_items most c.args.left from c.args.rows.now ps (pair c.args.key.now c.args.value.now ∷ []) w (sym c.is_spent.ensures ∙ c.if-is_spent.true)
