use Rattle.bt_tree.proofs.Opens.{settled_opens, settled_keeps}
use Rattle.bt_tree.proofs.laws.settled_trees_open.Goals as goal

pub returns-clause-opens : goal.returns-clause-opens
returns-clause-opens g c = settled_opens g.R.S.Space g.R.Records g.O.Order

pub returns-clause-rules : goal.returns-clause-rules
returns-clause-rules g c = settled_keeps g.R.S.Space g.R.Records g.O.Order
