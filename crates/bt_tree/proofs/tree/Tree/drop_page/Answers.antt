use Rattle.std.proofs.Common.{refl}
use Rattle.std.proofs.lemmas.Result.{on_ok_weaker}
use Rattle.bt_cache.specs.Effects.{same_store_map}
use Rattle.bt_tree.proofs.Droppings.{drop_shows}
use Rattle.bt_tree.proofs.Pagings.{ready_beside}
use Rattle.bt_tree.proofs.tree.Tree.drop_page.Goals as goal

pub drop_page-requires : goal.drop_page-requires
drop_page-requires g c = ready_beside g.R.S.Space g.R.Records c.args.self.now c.args.space.now c.requires.ready

pub returns-clause-out : goal.returns-clause-out
returns-clause-out g c =
    on_ok_weaker c.drop_page.result (λ out. drop_shows g.R.S.Space g.R.Records c.args.self.now _ c.args.space.now c.drop_page.new.space c.args.id c.requires.id out refl refl) c.drop_page.ensures.out

pub returns-clause-still : goal.returns-clause-still
returns-clause-still g c = record {
  keeps = c.drop_page.ensures.stays.keeps;
  made = same_store_map g.R.Records c.args.self.now.store c.drop_page.new.store c.drop_page.ensures.stays.store;
  head = refl;
  height = refl;
  column = refl;
  path = refl;
}
