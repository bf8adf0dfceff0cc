use Rattle.bt_tree.proofs.Pieces.{adds_none, adds_some}
use Rattle.bt_tree.proofs.tree.Tree.behind.Goals as goal

pub returns-then-next-eq0-clause-added : goal.returns-then-next-eq0-clause-added
returns-then-next-eq0-clause-added g c = λ pages h. adds_none c.args.next c.args.prev pages c.args.leaves c.if-next-eq0.true

pub returns-clause-added : goal.returns-clause-added
returns-clause-added g c = λ pages h. adds_some c.args.next c.args.prev pages c.args.leaves _ c.in_ok-leaf.leaf c.if-next-eq0.false (λ l e. c.in_ok-leaf.ensures.leaf pages l h e) (rw c.in_ok-leaf-2.ensures at c.in_ok-push.ensures.ok)
