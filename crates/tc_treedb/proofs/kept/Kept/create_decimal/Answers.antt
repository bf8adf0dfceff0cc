use Rattle.std.proofs.Common.{true}
use Rattle.bt_page.proofs.Runs.{err_handed}
use Rattle.tc_treedb.specs.declared.kept.Kept.TheVariants.{Decimal}
use Rattle.tc_treedb.proofs.Opened.{bare_new, lacks_first, may_be, new_kept, ready_new}
use Rattle.tc_treedb.proofs.kept.Kept.create_decimal.Goals as goal

pub create-requires : goal.create-requires
create-requires g c = record {
  ready = ready_new g.S.Space _ _ true Decimal c.decimal_tree.ensures c.args.shape.now c.args.hash c.args.space.now c.requires.new;
  bare = bare_new g.S.Space _ _ true Decimal c.decimal_tree.ensures c.args.shape.now c.args.hash c.args.space.now c.requires.new;
  numbers = may_be g.S.Space _ _ Decimal true c.decimal_tree.ensures c.args.shape.now c.requires.numbers;
}

pub returns-in_err-tree-clause-full : goal.returns-in_err-tree-clause-full
returns-in_err-tree-clause-full g c = λ full told. lacks_first g.S.Space _ _ true Decimal c.decimal_tree.ensures c.args.shape.now c.args.hash c.args.space.now c.requires.new c.create.new.space told
    (c.in_err-tree.ensures.full (err_handed c.from_residual.result c.in_err-tree.field-0.0 _ c.from_residual.ensures.1 full))

pub returns-clause-made : goal.returns-clause-made
returns-clause-made g c = new_kept g.S.Space _ _ true Decimal c.decimal_tree.ensures c.args.shape.now c.args.hash c.args.space.now c.requires.new c.in_ok-tree.tree c.create.new.space c.requires.order c.in_ok-tree.ensures.made
