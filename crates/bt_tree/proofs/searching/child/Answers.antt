use Rattle.bt_ways.proofs.Spots.{child_behind}
use Rattle.bt_tree.proofs.searching.child.Goals as goal

pub returns : goal.returns
returns c = child_behind _ _ c.args.place c.child.result c.if-place-eq0.false c.requires c.child.ensures
