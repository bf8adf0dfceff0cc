use Rattle.std.proofs.Common.{refl}
use Rattle.bt_tree.specs.Showing.{item_first}
use Rattle.bt_tree.proofs.Seeks.{asks_one, copied_item}
use Rattle.bt_tree.proofs.tree.Tree.first.Goals as goal

pub returns-in_err-_held-clause-asks : goal.returns-in_err-_held-clause-asks
returns-in_err-_held-clause-asks g c = asks_one g.R.S.Space g.R.Records g.O.Order c.args.self.now c.show_first.new.self c.new-steps.result c.show_first.new.steps c.args.space.now c.show_first.new.space c.new-steps.ensures c.show_first.ensures.asks

pub returns-clause-asks : goal.returns-clause-asks
returns-clause-asks g c = asks_one g.R.S.Space g.R.Records g.O.Order c.args.self.now c.show_first.new.self c.new-steps.result c.show_first.new.steps c.args.space.now c.show_first.new.space c.new-steps.ensures c.show_first.ensures.asks

pub returns-clause-value : goal.returns-clause-value
returns-clause-value g c = copied_item g.R.S.Space g.R.Records g.O.Order item_first _ (λ t. t.item) c.args.self.now c.args.space.now _ c.show_first.new.taker c.in_ok-_held._held (λ t u x more taken. taken.0) refl c.in_ok-_held.ensures.shown
