use Rattle.std.proofs.Common.{◌∙◌, ◌∷◌, [], ℕ, List, sym, subst}
use Rattle.std.specs.Prelude.{nat_eq}
use Rattle.std.specs.List.{starts_with}
use Rattle.std.specs.Map.{keys_of}
use Rattle.tc_engine.specs.Rows.{Adds, item_row, extends_refl, extends_then}
use Rattle.tc_memdb.specs.Walked.{key_items, Falls}
use Rattle.tc_memdb.proofs.Along.{walked_more, along_start, along_more, along_spent, along_stop, along_end, keys_owed}
use Rattle.tc_memdb.proofs.reading.add_keys.Goals as goal

pub returns-then-is_spent-clause-rows : goal.returns-then-is_spent-clause-rows
returns-then-is_spent-clause-rows g c =
    let a = along_spent key_items _ (λ e. e.0 ∷ []) c.args.most c.loop-key.left c.args.rows.now c.loop-key.rows c.into_iter-key-iterator.result c.loop-key.key-iterator c.loop-key.invariant.0 (sym c.is_spent.ensures ∙ c.if-is_spent.true) in
    subst (Adds c.args.rows.now c.loop-key.rows) (keys_owed {V = g.row.V.Denot} (λ k. starts_with nat_eq k c.args.prefix.now) c.args.most c.args.range) (rw c.into_iter-key-iterator.ensures.into_iter_gives at a)

pub returns-then-not-begins-clause-rows : goal.returns-then-not-begins-clause-rows
returns-then-not-begins-clause-rows g c =
    let falls = subst (λ (l : List (List ℕ × g.row.V.Denot)). Falls (λ k. starts_with nat_eq k c.args.prefix.now) (keys_of l)) (sym c.into_iter-key-iterator.ensures.into_iter_gives) c.requires in
    let a = along_stop key_items _ (λ e. e.0 ∷ []) c.args.most c.loop-key.left c.args.rows.now c.loop-key.rows c.into_iter-key-iterator.result c.loop-key.key-iterator c.next.new.self (c.in-Some.key.now, c.in-Some.field-0-1.now) c.loop-key.invariant.0 falls c.in-Some.ensures.steps (sym c.begins.ensures ∙ c.if-not-begins.true) in
    subst (Adds c.args.rows.now c.loop-key.rows) (keys_owed {V = g.row.V.Denot} (λ k. starts_with nat_eq k c.args.prefix.now) c.args.most c.args.range) (rw c.into_iter-key-iterator.ensures.into_iter_gives at a)

pub loop-key-init : goal.loop-key-init
loop-key-init g c = (along_start key_items _ (λ e. e.0 ∷ []) c.args.most c.args.rows.now c.into_iter-key-iterator.result, extends_refl c.args.rows.now)

pub loop-key-preserved : goal.loop-key-preserved
loop-key-preserved g c =
    let adds : Adds c.loop-key.rows c.item.new.self (item_row c.in-Some.key.now ∷ []) = subst (λ k. Adds c.loop-key.rows c.item.new.self (item_row k ∷ [])) c.as_slice.ensures c.in_ok-item.ensures.added in
    let w = walked_more key_items c.args.most c.loop-key.left c.args.rows.now c.loop-key.rows c.item.new.self _ c.in-Some.key.now c.loop-key.invariant.0.walked (sym c.is_spent.ensures ∙ c.if-is_spent.false) adds in (
      along_more key_items _ (λ e. e.0 ∷ []) c.args.most c.loop-key.left c.one_less-left.result c.args.rows.now c.loop-key.rows c.item.new.self c.into_iter-key-iterator.result c.loop-key.key-iterator c.next.new.self (c.in-Some.key.now, c.in-Some.field-0-1.now) c.loop-key.invariant.0 c.in-Some.ensures.steps (sym c.begins.ensures ∙ c.if-not-begins.false) (rw c.one_less-left.ensures w),
      extends_then c.args.rows.now c.loop-key.rows c.item.new.self c.loop-key.invariant.1 c.item.ensures.front,
    )

pub returns-clause-rows : goal.returns-clause-rows
returns-clause-rows g c =
    let a = along_end key_items _ (λ e. e.0 ∷ []) c.args.most c.loop-key.left c.args.rows.now c.loop-key.rows c.into_iter-key-iterator.result c.loop-key.key-iterator c.loop-key.invariant.0 c.in-None.ensures.steps.0 in
    subst (Adds c.args.rows.now c.loop-key.rows) (keys_owed {V = g.row.V.Denot} (λ k. starts_with nat_eq k c.args.prefix.now) c.args.most c.args.range) (rw c.into_iter-key-iterator.ensures.into_iter_gives at a)
