use Rattle.bt_tree.proofs.Clears.{column_none, column_some, fills_none, fills_some}
use Rattle.bt_cache.specs.Effects.{same_store_map, same_store_refl}
use Rattle.bt_tree.proofs.column.put_column.Goals as goal

pub returns-in-None-clause-put : goal.returns-in-None-clause-put
returns-in-None-clause-put g c = column_none g.R.S.Space g.R.Records c.args.column.now c.args.store.now c.args.space.now c.in-None.is c.requires.sound

pub returns-in-None-clause-fills : goal.returns-in-None-clause-fills
returns-in-None-clause-fills g c = fills_none g.R.S.Space g.R.Records c.args.column.now c.args.store.now c.args.space.now c.in-None.is

pub returns-in-None-clause-same : goal.returns-in-None-clause-same
returns-in-None-clause-same g c = same_store_refl g.R.Records c.args.store.now

pub returns-in-Ok-clause-put : goal.returns-in-Ok-clause-put
returns-in-Ok-clause-put g c = column_some g.R.S.Space g.R.Records c.args.column.now c.in-Some.bytes c.args.store.now c.put.new.self c.args.space.now c.put.new.space c.in-Some.is (rw (c.as_slice.ensures, c.as_slice-in-Some.ensures) at c.in-Ok.ensures.put)

pub returns-in-Ok-clause-fills : goal.returns-in-Ok-clause-fills
returns-in-Ok-clause-fills g c = fills_some g.R.S.Space g.R.Records c.args.column.now c.in-Some.bytes c.args.store.now c.put.new.self c.args.space.now c.in-Some.is (rw (c.as_slice.ensures, c.as_slice-in-Some.ensures) at c.in-Ok.ensures.fills)

pub returns-in-Ok-clause-same : goal.returns-in-Ok-clause-same
returns-in-Ok-clause-same g c = same_store_map g.R.Records c.args.store.now c.put.new.self c.put.ensures.stays

pub returns-in-Err-clause-same : goal.returns-in-Err-clause-same
returns-in-Err-clause-same g c = same_store_map g.R.Records c.args.store.now c.put.new.self c.put.ensures.stays
