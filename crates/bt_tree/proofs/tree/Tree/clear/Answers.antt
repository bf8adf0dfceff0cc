use Rattle.std.proofs.Common.{refl, inr}
use Rattle.bt_page.proofs.Runs.{err_handed}
use Rattle.bt_tree.proofs.Unlinkings.{cleared, emptied_full, emptied_id, emptied_ready, last_ready, way_ids}
use Rattle.bt_tree.proofs.tree.Tree.clear.Goals as goal

pub drop_way-requires-clause-ready : goal.drop_way-requires-clause-ready
drop_way-requires-clause-ready g c = last_ready g.R.S.Space g.R.Records g.O.Order c.args.id 0 0 c.args.self.now c.args.space.now c.requires

pub drop_way-requires-clause-ids : goal.drop_way-requires-clause-ids
drop_way-requires-clause-ids g c = way_ids g.R.S.Space g.R.Records g.O.Order c.args.id c.args.self.now c.args.space.now c.requires

pub returns-in_err-drop_way-clause-full : goal.returns-in_err-drop_way-clause-full
returns-in_err-drop_way-clause-full g c = λ is. inr (c.in_err-drop_way.ensures.full (err_handed c.from_residual.result _ _ c.from_residual.ensures.1 is))

pub put_leaf-requires-clause-ready : goal.put_leaf-requires-clause-ready
put_leaf-requires-clause-ready g c = emptied_ready g.R.S.Space g.R.Records g.O.Order c.args.id c.args.self.now c.drop_way.new.self c.args.space.now c.drop_way.new.space c.in_ok-drop_way.ensures.out c.in_ok-drop_way.ensures.narrows c.in_ok-drop_way.ensures.same c.requires

pub put_leaf-requires-clause-id : goal.put_leaf-requires-clause-id
put_leaf-requires-clause-id g c = emptied_id g.R.S.Space g.R.Records g.O.Order c.args.id c.args.self.now c.drop_way.new.self c.args.space.now c.drop_way.new.space c.in_ok-drop_way.ensures.out c.in_ok-drop_way.ensures.narrows c.in_ok-drop_way.ensures.same c.requires

pub returns-in_err-put_leaf-clause-full : goal.returns-in_err-put_leaf-clause-full
returns-in_err-put_leaf-clause-full g c = λ is.
    emptied_full g.R.S.Space g.R.Records g.O.Order c.args.id c.args.self.now c.drop_way.new.self c.args.space.now c.drop_way.new.space c.in_ok-drop_way.ensures.out c.in_ok-drop_way.ensures.narrows c.in_ok-drop_way.ensures.same
    c.put_leaf.new.space (rw (c.in_ok-leaf.ensures, c.new.ensures) at (c.in_err-put_leaf.ensures.full (err_handed c.from_residual-in_err-put_leaf.result _ _ c.from_residual-in_err-put_leaf.ensures.1 is)))

pub returns-clause-vacated : goal.returns-clause-vacated
returns-clause-vacated g c =
    cleared g.R.S.Space g.R.Records g.O.Order c.args.id c.args.self.now c.drop_way.new.self c.args.space.now c.drop_way.new.space c.in_ok-drop_way.ensures.out c.in_ok-drop_way.ensures.narrows c.in_ok-drop_way.ensures.same
    c.put_leaf.new.self _ c.put_leaf.new.space (rw (c.in_ok-leaf.ensures, c.new.ensures) at c.in_ok-put_leaf.ensures.put) refl refl refl (record { order = refl; leaf_limit = refl; node_limit = refl; leaf_ids = refl; node_ids = refl }) refl refl refl refl
