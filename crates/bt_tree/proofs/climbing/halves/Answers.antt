use Rattle.std.proofs.Common.{◌/◌, ◌∙◌, ap, arith}
use Rattle.bt_page.specs.declared.page.Node.{Node}
use Rattle.bt_tree.proofs.Climbings.{cut_around}
use Rattle.bt_tree.proofs.climbing.halves.Goals as goal

pub returns-clause-cut : goal.returns-clause-cut
returns-clause-cut c =
    cut_around c.args.node.now.entries c.in_ok-front.front.entries c.in_ok-back.back.entries (c.len-at.result / 2) _ _ _ (omega (arith, c.len-at.ensures, c.len.ensures, c.if-at-len.false)) c.len-2.ensures c.child-child.ensures (λ e is. c.in_ok-key.ensures ∙ c.key.ensures e is)
    (ap (λ (n : Node). n.entries) c.in_ok-front.ensures) (ap (λ (n : Node). n.entries) c.in_ok-back.ensures)
