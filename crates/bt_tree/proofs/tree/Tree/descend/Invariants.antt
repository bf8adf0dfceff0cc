use Rattle.bt_rows.specs.Orders.{before_by}
use Rattle.bt_tree.proofs.Descents.{Descends}
use Rattle.bt_tree.proofs.tree.Tree.descend.Given as goal

abbrev pub invariant-loop-i : goal.invariant-loop-i
invariant-loop-i g l = Descends g.R.S.Space g.R.Records g.O.Order (before_by g.O.Order.cmp) l.key l.fn.self l.self l.self.path l.fn.space l.space l.fn.steps l.steps l.id l.i
