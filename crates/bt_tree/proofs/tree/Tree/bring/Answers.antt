use Rattle.std.proofs.Common.{refl}
use Rattle.bt_tree.proofs.Tellings.{bring_ready, same_back, settle_brings}
use Rattle.bt_tree.proofs.tree.Tree.bring.Goals as goal

pub settle-requires : goal.settle-requires
settle-requires g c = bring_ready g.R.S.Space g.R.Records c.args.self.now c.set_opaque.new.self _ c.set_opaque.ensures.sets c.set_opaque.ensures.means c.args.space.now c.requires

pub returns-in-Err-clause-still : goal.returns-in-Err-clause-still
returns-in-Err-clause-still g c = record {
  keeps = c.settle.ensures.keeps;
  made = same_back g.R.S.Space g.R.Records c.args.self.now c.set_opaque.new.self _ c.set_opaque.ensures.sets c.set_opaque.ensures.means c.settle.new.self c.settle.ensures.stays c.set_opaque-in-Err.new.self _ c.set_opaque-in-Err.ensures.sets c.opaque-was.ensures;
  head = refl;
  height = refl;
  column = refl;
  path = refl;
}

pub returns-clause-brings : goal.returns-clause-brings
returns-clause-brings g c =
    settle_brings g.R.S.Space g.R.Records c.args.self.now c.set_opaque.new.self c.region_of-told.result c.set_opaque.ensures.sets c.set_opaque.ensures.means c.settle.new.self c.settle.ensures.stays c.args.space.now c.settle.new.space c.region_of-told.ensures.numbers c.in_default.ensures.settled c.in_default.ensures.stands

pub returns-clause-still : goal.returns-clause-still
returns-clause-still g c = record {
  keeps = c.settle.ensures.keeps;
  made = same_back g.R.S.Space g.R.Records c.args.self.now c.set_opaque.new.self _ c.set_opaque.ensures.sets c.set_opaque.ensures.means c.settle.new.self c.settle.ensures.stays c.set_opaque-2.new.self _ c.set_opaque-2.ensures.sets c.opaque-was.ensures;
  head = refl;
  height = refl;
  column = refl;
  path = refl;
}
