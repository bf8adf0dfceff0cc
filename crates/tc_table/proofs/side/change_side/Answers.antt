use Rattle.std.proofs.Common.{◌∙◌, List, ℕ, subst, sym}
use Rattle.std.specs.Option.{option_copied}
use Rattle.std.proofs.lemmas.Result.{on_ok_weaker}
use Rattle.td_index.specs.Entries.{AreWhole}
use Rattle.tc_table.specs.Sides.{name_of}
use Rattle.tc_table.proofs.Turning.{parts_had, parts_kept, side_changed, side_full, side_kept, side_same, side_stays, tree_sound}
use Rattle.tc_table.proofs.side.change_side.Goals as goal

pub returns-then-are_same-clause-turns : goal.returns-then-are_same-clause-turns
returns-then-are_same-clause-turns g c =
    side_kept g.S.Space g.L.Multi g.D.Multi c.args.side.now c.args.key.now (option_copied c.args.old) (option_copied c.args.new) c.args.space.now (tree_sound g.S.Space g.L.Multi g.D.Multi c.args.side.now.tree c.args.space.now c.requires.ready)
    (parts_kept c.args.side.now.kind (name_of c.args.side.now.tree) c.as_slice-name.result.now (option_copied c.args.old) (option_copied c.args.new) _ _ (c.as_slice-name.ensures ∙ c.name.ensures) c.value_of-had.ensures.value c.value_of-has.ensures.value (c.are_same.ensures c.if-are_same.true))

pub returns-then-are_same-clause-stays : goal.returns-then-are_same-clause-stays
returns-then-are_same-clause-stays g c = side_stays g.S.Space g.L.Multi g.D.Multi c.args.side.now

pub returns-in_err-before-clause-stays : goal.returns-in_err-before-clause-stays
returns-in_err-before-clause-stays g c = side_stays g.S.Space g.L.Multi g.D.Multi c.args.side.now

pub returns-in_err-after-clause-stays : goal.returns-in_err-after-clause-stays
returns-in_err-after-clause-stays g c = side_stays g.S.Space g.L.Multi g.D.Multi c.args.side.now

pub change_tree-requires-clause-old : goal.change_tree-requires-clause-old
change_tree-requires-clause-old g c = subst (λ (fs : List (List ℕ)). AreWhole fs) (sym c.as_slice-gone.ensures) c.in_ok-before.ensures.whole

pub change_tree-requires-clause-new : goal.change_tree-requires-clause-new
change_tree-requires-clause-new g c = subst (λ (fs : List (List ℕ)). AreWhole fs) (sym c.as_slice-come.ensures) c.in_ok-after.ensures.whole

pub returns-clause-turns : goal.returns-clause-turns
returns-clause-turns g c = on_ok_weaker _ (λ turns. side_changed g.S.Space g.L.Multi g.D.Multi c.args.side.now c.change_tree.new.tree c.args.key.now (option_copied c.args.old) (option_copied c.args.new) c.as_slice-gone.result.now c.as_slice-come.result.now c.args.space.now c.change_tree.new.space
    (parts_had c.args.side.now.kind (name_of c.args.side.now.tree) c.as_slice-name.result.now (option_copied c.args.old) _ c.in_ok-before.before c.as_slice-gone.result.now (c.as_slice-name.ensures ∙ c.name.ensures) c.value_of-had.ensures.value c.in_ok-before.ensures.parts c.as_slice-gone.ensures)
    (parts_had c.args.side.now.kind (name_of c.args.side.now.tree) c.as_slice-name.result.now (option_copied c.args.new) _ c.in_ok-after.after c.as_slice-come.result.now (c.as_slice-name.ensures ∙ c.name.ensures) c.value_of-has.ensures.value c.in_ok-after.ensures.parts c.as_slice-come.ensures)
    c.change_tree.ensures.stays turns) c.change_tree.ensures.turns

pub returns-clause-full : goal.returns-clause-full
returns-clause-full g c = λ full. side_full g.S.Space g.L.Multi g.D.Multi g.L.O.Order.cmp g.D.O.Order.cmp c.args.side.now c.args.key.now (option_copied c.args.old) (option_copied c.args.new) c.as_slice-gone.result.now c.as_slice-come.result.now c.args.space.now c.change_tree.new.space
    (parts_had c.args.side.now.kind (name_of c.args.side.now.tree) c.as_slice-name.result.now (option_copied c.args.old) _ c.in_ok-before.before c.as_slice-gone.result.now (c.as_slice-name.ensures ∙ c.name.ensures) c.value_of-had.ensures.value c.in_ok-before.ensures.parts c.as_slice-gone.ensures)
    (parts_had c.args.side.now.kind (name_of c.args.side.now.tree) c.as_slice-name.result.now (option_copied c.args.new) _ c.in_ok-after.after c.as_slice-come.result.now (c.as_slice-name.ensures ∙ c.name.ensures) c.value_of-has.ensures.value c.in_ok-after.ensures.parts c.as_slice-come.ensures)
    (c.change_tree.ensures.full full)

pub returns-clause-stays : goal.returns-clause-stays
returns-clause-stays g c = side_same g.S.Space g.L.Multi g.D.Multi c.args.side.now c.change_tree.new.tree c.change_tree.ensures.stays
