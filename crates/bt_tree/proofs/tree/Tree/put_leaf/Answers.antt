use Rattle.std.proofs.Common.{refl, inl}
use Rattle.std.proofs.lemmas.Result.{on_ok_weaker}
use Rattle.bt_cache.specs.Effects.{same_store_map}
use Rattle.bt_rows.specs.declared.page.Page.TheVariants.{Leaf as leaf_page}
use Rattle.bt_tree.proofs.Pagings.{lacks_now, put_shows, ready_beside}
use Rattle.bt_tree.proofs.tree.Tree.put_leaf.Goals as goal

pub put_leaf-requires-clause-ready : goal.put_leaf-requires-clause-ready
put_leaf-requires-clause-ready g c = ready_beside g.R.S.Space g.R.Records c.args.self.now c.args.space.now c.requires.ready

pub returns-clause-put : goal.returns-clause-put
returns-clause-put g c =
    on_ok_weaker c.put_leaf.result
    (λ put. put_shows g.R.S.Space g.R.Records c.args.self.now _ c.args.space.now c.put_leaf.new.space c.args.id (leaf_page c.args.leaf) (λ told. inl (c.requires.id told))
    (c.if-id-ge-PAGE_END.false, record { fits = c.as_slice-bytes.ensures.fits; is = refl }) put refl refl)
    c.put_leaf.ensures.put

pub returns-clause-full : goal.returns-clause-full
returns-clause-full g c = λ is.
    lacks_now g.R.S.Space g.R.Records c.args.self.now c.args.space.now c.put_leaf.new.space c.args.id (leaf_page c.args.leaf) (c.if-id-ge-PAGE_END.false, record { fits = c.as_slice-bytes.ensures.fits; is = refl }) c.put_leaf.ensures.stays.keeps (c.put_leaf.ensures.full is)

pub returns-clause-still : goal.returns-clause-still
returns-clause-still g c = record {
  keeps = c.put_leaf.ensures.stays.keeps;
  made = same_store_map g.R.Records c.args.self.now.store c.put_leaf.new.store c.put_leaf.ensures.stays.store;
  head = refl;
  height = refl;
  column = refl;
  path = refl;
}
