use Rattle.std.proofs.Common.{true, false, refl, inl, inr}
use Rattle.bt_tree.proofs.Shows.{shows_leaf}
use Rattle.bt_tree.proofs.visiting.show_leaf.Goals as goal

pub returns-then-not-branch-clause-shown : goal.returns-then-not-branch-clause-shown
returns-then-not-branch-clause-shown g c = λ rise.
    let shown = rw c.if-not-branch.true at c.in_ok-show_from.ensures.shown in
    shows_leaf g.T.Taker.takes (g.C.Cut.side_of c.args.cut.now) c.args.leaf.now c.start-place.result c.args.taker.now c.show_from.new.taker false 0 (c.start-place.ensures.start rise) shown (λ on. absurd (on refl)) (λ end. inl refl)

pub returns-clause-shown : goal.returns-clause-shown
returns-clause-shown g c = λ rise.
    let shown = rw c.if-not-branch.false at c.in_ok-show_from.ensures.shown in
    rw c.next.ensures (shows_leaf g.T.Taker.takes (g.C.Cut.side_of c.args.cut.now) c.args.leaf.now c.start-place.result c.args.taker.now c.show_from.new.taker true c.args.leaf.now.next (c.start-place.ensures.start rise) shown (λ on. (refl, refl)) (λ end. inr (refl, end)))
