use Rattle.std.proofs.Common.{refl}
use Rattle.bt_tree.proofs.Droppings.{all_same, drops_on, same_ready, way_none}
use Rattle.bt_tree.proofs.tree.Tree.drop_way.Goals as goal

pub drop_page-requires-clause-ready : goal.drop_page-requires-clause-ready
drop_page-requires-clause-ready g c = same_ready g.R.S.Space g.R.Records c.loop-id.self _ c.loop-id.space refl refl refl (all_same _ _ refl) c.loop-id.invariant.ready

pub loop-id-preserved : goal.loop-id-preserved
loop-id-preserved g c =
    drops_on g.R.S.Space g.R.Records c.args.self.now c.loop-id.self _ c.drop_page.new.self c.args.space.now c.loop-id.space c.drop_page.new.space _ _ c.loop-id.invariant
    refl refl refl refl refl c.in_ok-drop_page.ensures.still c.in-Some.ensures refl c.in_ok-drop_page.ensures.out

pub returns-clause-out : goal.returns-clause-out
returns-clause-out g c = c.loop-id.invariant.rest _ c.loop-id.space (way_none g.R.S.Space g.R.Records c.loop-id.self _ c.loop-id.space c.loop-id.invariant.ready.sound c.in_default.ensures.0 refl refl refl refl)
