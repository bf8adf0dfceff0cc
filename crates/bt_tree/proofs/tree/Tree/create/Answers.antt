use Rattle.std.proofs.Common.{refl}
use Rattle.bt_cache.specs.Effects.{same_store_map}
use Rattle.bt_page.proofs.Runs.{err_handed, on_err_any}
use Rattle.bt_tree.proofs.Makes.{bare_ready, lacks_first, looked_refused, made, unmade}
use Rattle.bt_tree.proofs.tree.Tree.create.Goals as goal

pub returns-in_err-column-clause-refused : goal.returns-in_err-column-clause-refused
returns-in_err-column-clause-refused g c = on_err_any _ (looked_refused g.R.S.Space g.R.Records c.args.store c.read_column.new.store c.args.space.now c.read_column.new.space c.requires.ready c.read_column.ensures.looks)

pub returns-in_err-cache-clause-refused : goal.returns-in_err-cache-clause-refused
returns-in_err-cache-clause-refused g c = on_err_any _ (looked_refused g.R.S.Space g.R.Records c.args.store c.read_column.new.store c.args.space.now c.read_column.new.space c.requires.ready c.read_column.ensures.looks)

pub returns-in_err-leaf-clause-refused : goal.returns-in_err-leaf-clause-refused
returns-in_err-leaf-clause-refused g c = on_err_any _ (looked_refused g.R.S.Space g.R.Records c.args.store c.read_column.new.store c.args.space.now c.read_column.new.space c.requires.ready c.read_column.ensures.looks)

pub put_leaf-requires-clause-ready : goal.put_leaf-requires-clause-ready
put_leaf-requires-clause-ready g c = bare_ready g.R.S.Space g.R.Records c.args.store c.read_column.new.store c.args.space.now c.read_column.new.space c.requires.ready c.read_column.ensures.looks c.in_ok-cache.cache c.in_ok-cache.ensures.none

pub returns-clause-made : goal.returns-clause-made
returns-clause-made g c =
    made g.R.S.Space g.R.Records c.args.store c.read_column.new.store c.args.space.now c.read_column.new.space c.requires.ready c.read_column.ensures.looks c.in_ok-cache.cache c.in_ok-cache.ensures.none g.O.Order c.args.leaf_limit c.args.node_limit c.requires.numbers c.requires.bare
    _ c.put_leaf.new.space (rw (c.in_ok-leaf.ensures, c.new-2.ensures) at c.in_ok-put_leaf.ensures.put) (same_store_map g.R.Records c.read_column.new.store c.put_leaf.new.store c.put_leaf.ensures.stays.store) (rw c.CODE.ensures at c.new_head.ensures) refl
    c.in_ok-column.ensures.value

pub returns-in_err-put_leaf-clause-refused : goal.returns-in_err-put_leaf-clause-refused
returns-in_err-put_leaf-clause-refused g c =
    on_err_any _
    (unmade g.R.S.Space g.R.Records c.args.store c.read_column.new.store c.args.space.now c.read_column.new.space c.requires.ready c.read_column.ensures.looks c.in_ok-cache.cache c.in_ok-cache.ensures.none c.put_leaf.new.self c.put_leaf.new.store c.put_leaf.new.space c.put_leaf.ensures.stays.keeps c.in_err-put_leaf.ensures.refused)

pub returns-in_err-put_leaf-clause-full : goal.returns-in_err-put_leaf-clause-full
returns-in_err-put_leaf-clause-full g c = λ is.
    lacks_first g.R.S.Space g.R.Records c.args.store c.read_column.new.store c.args.space.now c.read_column.new.space c.requires.ready c.read_column.ensures.looks c.in_ok-cache.cache c.in_ok-cache.ensures.none c.put_leaf.new.space
    (rw (c.in_ok-leaf.ensures, c.new-2.ensures) at (c.in_err-put_leaf.ensures.full (err_handed c.from_residual-in_err-put_leaf.result _ _ c.from_residual-in_err-put_leaf.ensures.1 is)))
