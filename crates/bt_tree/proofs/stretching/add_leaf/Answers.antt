use Rattle.std.proofs.Common.{true, false, refl, inl, inr, arith}
use Rattle.bt_tree.proofs.Cuts.{leaf_scanned, some_behind}
use Rattle.bt_tree.proofs.stretching.add_leaf.Goals as goal

pub returns-then-not-branch-clause-scanned : goal.returns-then-not-branch-clause-scanned
returns-then-not-branch-clause-scanned g c = λ rise some.
    let added = rw c.if-not-branch.true at c.in_ok-add_items.ensures in
    leaf_scanned (g.C.Cut.side_of c.args.cut.now) c.args.max c.args.leaf.now c.start-place.result c.args.pairs.now c.add_items.new.pairs false 0 (c.start-place.ensures.start rise) (added (some_behind c.args.leaf.now.items c.start-place.result some))
    (λ on. absurd (on refl)) (λ end. inl refl)

pub returns-then-len-max-clause-scanned : goal.returns-then-len-max-clause-scanned
returns-then-len-max-clause-scanned g c = λ rise some.
    let added = rw c.if-not-branch.false at c.in_ok-add_items.ensures in
    leaf_scanned (g.C.Cut.side_of c.args.cut.now) c.args.max c.args.leaf.now c.start-place.result c.args.pairs.now c.add_items.new.pairs true 0 (c.start-place.ensures.start rise) (added (some_behind c.args.leaf.now.items c.start-place.result some))
    (λ on. absurd (on refl)) (λ end. inr (inl (omega (arith, c.if-len-max.true, c.len.ensures))))

pub returns-clause-scanned : goal.returns-clause-scanned
returns-clause-scanned g c = λ rise some.
    let added = rw c.if-not-branch.false at c.in_ok-add_items.ensures in
    rw c.next.ensures (leaf_scanned (g.C.Cut.side_of c.args.cut.now) c.args.max c.args.leaf.now c.start-place.result c.args.pairs.now c.add_items.new.pairs true c.args.leaf.now.next (c.start-place.ensures.start rise) (added (some_behind c.args.leaf.now.items c.start-place.result some))
    (λ on. (refl, refl)) (λ end. inr (inr (refl, end))))
