use Rattle.bt_tree.proofs.tree.Tree.vacate.Goals as goal

pub returns-then-next-eq0-clause-full : goal.returns-then-next-eq0-clause-full
returns-then-next-eq0-clause-full g c = rw (c.if-prev-eq0.true, c.if-next-eq0.true) c.clear.ensures.full
