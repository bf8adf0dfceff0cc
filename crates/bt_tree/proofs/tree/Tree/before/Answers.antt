use Rattle.std.proofs.Common.{refl}
use Rattle.bt_tree.specs.Showing.{item_before}
use Rattle.bt_tree.proofs.Seeks.{copied_item}
use Rattle.bt_tree.proofs.tree.Tree.before.Goals as goal

pub returns-clause-value : goal.returns-clause-value
returns-clause-value g c = copied_item g.R.S.Space g.R.Records g.O.Order (item_before g.O.Order.cmp c.args.key.now) _ (λ t. t.item) c.args.self.now c.args.space.now _ c.show_before.new.taker c.in_ok-_held._held (λ t u x more taken. taken.0) refl c.in_ok-_held.ensures.shown
