use Rattle.std.proofs.Common.{refl, true}
use Rattle.bt_check.proofs.Mapped.{if_err_handed}
use Rattle.tc_tabledb.proofs.Opened.{decimal_opened, index_breaks, index_ordered, index_ready}
use Rattle.tc_tabledb.proofs.opening.open_decimal.Goals as goal

pub open_index-requires : goal.open_index-requires
open_index-requires g c = record {
  ready = index_ready g.S.Space _ c.table_stores.ensures.store _ true _ c.table_stores.ensures.decimal c.args.hash c.args.space.now c.requires.ready refl c.requires.told;
  order = index_ordered g.S.Space _ c.table_stores.ensures.store _ true _ c.table_stores.ensures.decimal c.args.hash c.args.space.now c.requires.ready refl c.requires.told;
}

pub returns-in_err-tree-clause-broken : goal.returns-in_err-tree-clause-broken
returns-in_err-tree-clause-broken g c = if_err_handed c.from_residual.result c.in_err-tree.field-0.0 _ c.from_residual.ensures.1 (index_breaks g.S.Space _ c.table_stores.ensures.store _ true _ c.table_stores.ensures.decimal c.args.hash c.args.space.now c.requires.ready refl c.requires.told c.in_err-tree.field-0.0 c.in_err-tree.ensures.broken)

pub returns-clause-opened : goal.returns-clause-opened
returns-clause-opened g c = decimal_opened g.S.Space _ _ _ _ _ c.table_stores.ensures c.args.hash c.args.space.now c.requires.ready refl _ c.open_index.new.space c.requires.told c.open_index.ensures.reads.is_sound c.in_ok-tree.ensures.opened
