use Rattle.std.proofs.Common.{refl, ap, ◌∙◌}
use Rattle.bt_rows.specs.Heads.{head_of}
use Rattle.tc_space.specs.Stores.{ready_reads}
use Rattle.bt_tree.proofs.Opens.{opened}
use Rattle.bt_tree.proofs.tree.Tree.open_as.Goals as goal

pub find_column-requires : goal.find_column-requires
find_column-requires g c = ready_reads g.R.S.Space _ c.args.store c.measure_tree.new.store c.args.space.now c.measure_tree.new.space c.measure_tree.ensures.looks.reads c.requires.ready

pub returns-clause-opened : goal.returns-clause-opened
returns-clause-opened g c =
    opened g.R.S.Space g.R.Records c.args.store c.measure_tree.new.store c.find_column.new.store c.args.space.now c.measure_tree.new.space c.find_column.new.space c.measure_tree.ensures.looks c.find_column.ensures.looks c.measure_tree.ensures.asks c.find_column.ensures.asks
    g.O.Order c.in_ok-height.height c.args.index _ c.requires.order c.in_ok-height.ensures.stands c.in_ok-column.ensures.value refl c.in_ok-cache.ensures.none (c.read-head.ensures ∙ ap head_of c.opaque.ensures) refl
