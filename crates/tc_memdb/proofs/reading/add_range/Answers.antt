use Rattle.std.proofs.Common.{◌∙◌, ℕ, List, sym, subst}
use Rattle.std.specs.Prelude.{option_map}
use Rattle.std.specs.Map.{keys_of}
use Rattle.tc_maps.specs.Entries.{Held, pairs_at}
use Rattle.tc_engine.specs.Rows.{extends_refl, extends_then}
use Rattle.tc_memdb.specs.Walked.{pair_items, is_before, Falls}
use Rattle.tc_memdb.proofs.Along.{along_start, along_more, along_spent, along_stop, along_end}
use Rattle.tc_memdb.proofs.reading.add_range.Goals as goal

pub returns-then-is_spent-clause-rows : goal.returns-then-is_spent-clause-rows
returns-then-is_spent-clause-rows c =
    let a = along_spent pair_items _ pairs_at c.args.most c.loop-key.left c.args.rows.now c.loop-key.rows c.into_iter-key-iterator.result c.loop-key.key-iterator c.loop-key.invariant.0 (sym c.is_spent.ensures ∙ c.if-is_spent.true) in
    rw c.into_iter-key-iterator.ensures.into_iter_gives at a

pub returns-then-not-is_before-clause-rows : goal.returns-then-not-is_before-clause-rows
returns-then-not-is_before-clause-rows c =
    let falls = subst (λ (l : List (List ℕ × Held)). Falls (is_before (option_map (λ k. k.now) c.args.to)) (keys_of l)) (sym c.into_iter-key-iterator.ensures.into_iter_gives) c.requires in
    let a = along_stop pair_items _ pairs_at c.args.most c.loop-key.left c.args.rows.now c.loop-key.rows c.into_iter-key-iterator.result c.loop-key.key-iterator c.next.new.self (c.in-Some.key.now, c.in-Some.values.now) c.loop-key.invariant.0 falls c.in-Some.ensures.steps (sym c.is_before.ensures ∙ c.if-not-is_before.true) in
    rw c.into_iter-key-iterator.ensures.into_iter_gives at a

pub loop-key-init : goal.loop-key-init
loop-key-init c = (along_start pair_items _ pairs_at c.args.most c.args.rows.now c.into_iter-key-iterator.result, extends_refl c.args.rows.now)

pub loop-key-preserved : goal.loop-key-preserved
loop-key-preserved c = (
  along_more pair_items _ pairs_at c.args.most c.loop-key.left c.in_ok-left.left c.args.rows.now c.loop-key.rows c.add_entry.new.rows c.into_iter-key-iterator.result c.loop-key.key-iterator c.next.new.self (c.in-Some.key.now, c.in-Some.values.now) c.loop-key.invariant.0 c.in-Some.ensures.steps (sym c.is_before.ensures ∙ c.if-not-is_before.false) (c.in_ok-left.ensures.walked _ _ _ c.loop-key.invariant.0.walked),
  extends_then c.args.rows.now c.loop-key.rows c.add_entry.new.rows c.loop-key.invariant.1 c.add_entry.ensures.front,
)

pub returns-clause-rows : goal.returns-clause-rows
returns-clause-rows c =
    let a = along_end pair_items _ pairs_at c.args.most c.loop-key.left c.args.rows.now c.loop-key.rows c.into_iter-key-iterator.result c.loop-key.key-iterator c.loop-key.invariant.0 c.in-None.ensures.steps.0 in
    rw c.into_iter-key-iterator.ensures.into_iter_gives at a
