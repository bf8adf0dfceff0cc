use Rattle.std.proofs.Common.{refl}
use Rattle.bt_tree.specs.Showing.{item_last}
use Rattle.bt_tree.proofs.Seeks.{asks_one, copied_item}
use Rattle.bt_tree.proofs.tree.Tree.last.Goals as goal

pub returns-in_err-_held-clause-asks : goal.returns-in_err-_held-clause-asks
returns-in_err-_held-clause-asks g c = asks_one g.R.S.Space g.R.Records g.O.Order c.args.self.now c.show_last.new.self c.new-steps.result c.show_last.new.steps c.args.space.now c.show_last.new.space c.new-steps.ensures c.show_last.ensures.asks

pub returns-clause-asks : goal.returns-clause-asks
returns-clause-asks g c = asks_one g.R.S.Space g.R.Records g.O.Order c.args.self.now c.show_last.new.self c.new-steps.result c.show_last.new.steps c.args.space.now c.show_last.new.space c.new-steps.ensures c.show_last.ensures.asks

pub returns-clause-value : goal.returns-clause-value
returns-clause-value g c = copied_item g.R.S.Space g.R.Records g.O.Order item_last _ (λ t. t.item) c.args.self.now c.args.space.now _ c.show_last.new.taker c.in_ok-_held._held (λ t u x more taken. taken.0) refl c.in_ok-_held.ensures.shown
