use Rattle.std.proofs.Common.{false}
use Rattle.td_index.proofs.Handed.{err_handed}
use Rattle.tc_tabledb.proofs.Made.{leaf_lacks, lexical_made, tree_bare, tree_numbers, tree_ready}
use Rattle.tc_tabledb.proofs.indexing.make_lexical.Goals as goal

pub create-requires : goal.create-requires
create-requires g c = record {
  ready = tree_ready g.S.Space _ c.table_stores.ensures.store _ false _ c.table_stores.ensures.lexical c.args.hash c.args.kind c.args.name c.args.space.now c.requires.column;
  bare = tree_bare g.S.Space _ c.table_stores.ensures.store _ false _ c.table_stores.ensures.lexical c.args.hash c.args.kind c.args.name c.args.space.now c.requires.column;
  numbers = tree_numbers g.S.Space _ c.table_stores.ensures.store _ false _ c.table_stores.ensures.lexical c.args.hash c.args.kind c.args.name c.args.space.now c.requires.column;
}

pub returns-in_err-tree-clause-full : goal.returns-in_err-tree-clause-full
returns-in_err-tree-clause-full g c = λ full told. leaf_lacks g.S.Space _ c.table_stores.ensures.store _ false _ c.table_stores.ensures.lexical c.args.hash c.args.kind c.args.name c.args.space.now c.requires.column c.create.new.space told (c.in_err-tree.ensures.full (err_handed c.from_residual.result c.in_err-tree.field-0.0 _ c.from_residual.ensures.1 full))

pub returns-clause-made : goal.returns-clause-made
returns-clause-made g c = lexical_made g.S.Space _ _ _ _ _ c.table_stores.ensures c.args.hash c.args.kind _ c.args.space.now c.create.new.space c.requires.column c.requires.place c.requires.named c.requires.order c.in_ok-tree.ensures.made
