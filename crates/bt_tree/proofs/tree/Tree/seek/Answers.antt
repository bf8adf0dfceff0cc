use Rattle.std.proofs.Common.{◌+◌, ◌-◌, ◌∙◌, sym, inl, inr, arith}
use Rattle.bt_tree.proofs.Descents.{looks_ready}
use Rattle.bt_tree.proofs.Finds.{asks_of}
use Rattle.bt_tree.proofs.Fronts.{visits_most, visits_then}
use Rattle.bt_tree.proofs.Seeks.{empty_list, onward_there, seeks_here, seeks_onward, start_there}
use Rattle.bt_tree.specs.Costs.{looks_then}
use Rattle.bt_tree.proofs.tree.Tree.seek.Goals as goal

pub returns-in_err-id-clause-asks : goal.returns-in_err-id-clause-asks
returns-in_err-id-clause-asks g c =
    asks_of _ _ _ _ _ _ _ _ _ _ (visits_most g.R.S.Space g.R.Records (c.args.self.now.height - 1) (c.args.self.now.height + 1) c.args.self.now c.descend_to.new.self c.args.steps.now c.descend_to.new.steps c.args.space.now c.descend_to.new.space (omega (arith, c.args.self.now.rows)) c.descend_to.ensures.visits)

pub copies_of-requires-clause-ready : goal.copies_of-requires-clause-ready
copies_of-requires-clause-ready g c =
    looks_ready g.R.S.Space g.R.Records g.O.Order c.args.self.now c.descend_to.new.self.cache c.descend_to.new.self.store c.args.space.now c.descend_to.new.space c.descend_to.ensures.visits.looks c.requires

pub copies_of-requires-clause-there : goal.copies_of-requires-clause-there
copies_of-requires-clause-there g c =
    start_there g.R.S.Space g.R.Records g.O.Order g.met.O.Order.total g.met.O.Order.exact (g.C.Cut.side_of c.args.cut.now) (g.met.C.Cut.never_falls c.args.cut.now) c.args.self.now c.args.space.now c.in_ok-id.ensures.found.0 c.in_ok-id.id c.in_ok-id.ensures.found.1
    c.descend_to.new.self c.descend_to.new.space c.descend_to.ensures.visits.looks c.requires

pub returns-in_err-copies-clause-asks : goal.returns-in_err-copies-clause-asks
returns-in_err-copies-clause-asks g c =
    asks_of _ _ _ _ _ _ _ _ _ _ (visits_most g.R.S.Space g.R.Records (c.args.self.now.height - 1 + 1) (c.args.self.now.height + 1) c.args.self.now c.copies_of.new.self c.args.steps.now c.copies_of.new.steps c.args.space.now c.copies_of.new.space (omega (arith, c.args.self.now.rows)) (visits_then g.R.S.Space g.R.Records (c.args.self.now.height - 1) 1 c.args.self.now c.descend_to.new.self c.copies_of.new.self c.args.steps.now c.descend_to.new.steps c.copies_of.new.steps c.args.space.now c.descend_to.new.space c.copies_of.new.space c.descend_to.ensures.visits c.copies_of.ensures.visits))

pub returns-then-next-eq0-clause-asks : goal.returns-then-next-eq0-clause-asks
returns-then-next-eq0-clause-asks g c =
    asks_of _ _ _ _ _ _ _ _ _ _ (visits_most g.R.S.Space g.R.Records (c.args.self.now.height - 1 + 1) (c.args.self.now.height + 1) c.args.self.now c.copies_of.new.self c.args.steps.now c.copies_of.new.steps c.args.space.now c.copies_of.new.space (omega (arith, c.args.self.now.rows)) (visits_then g.R.S.Space g.R.Records (c.args.self.now.height - 1) 1 c.args.self.now c.descend_to.new.self c.copies_of.new.self c.args.steps.now c.descend_to.new.steps c.copies_of.new.steps c.args.space.now c.descend_to.new.space c.copies_of.new.space c.descend_to.ensures.visits c.copies_of.ensures.visits))

pub returns-clause-asks : goal.returns-clause-asks
returns-clause-asks g c =
    asks_of _ _ _ _ _ _ _ _ _ _ (visits_most g.R.S.Space g.R.Records (c.args.self.now.height - 1 + 1) (c.args.self.now.height + 1) c.args.self.now c.copies_of.new.self c.args.steps.now c.copies_of.new.steps c.args.space.now c.copies_of.new.space (omega (arith, c.args.self.now.rows)) (visits_then g.R.S.Space g.R.Records (c.args.self.now.height - 1) 1 c.args.self.now c.descend_to.new.self c.copies_of.new.self c.args.steps.now c.descend_to.new.steps c.copies_of.new.steps c.args.space.now c.descend_to.new.space c.copies_of.new.space c.descend_to.ensures.visits c.copies_of.ensures.visits))

pub returns-then-next-eq0-clause-items : goal.returns-then-next-eq0-clause-items
returns-then-next-eq0-clause-items g c =
    seeks_here g.R.S.Space g.R.Records g.O.Order g.met.O.Order.total g.met.O.Order.exact (g.C.Cut.side_of c.args.cut.now) (g.met.C.Cut.never_falls c.args.cut.now) c.args.self.now c.args.space.now c.in_ok-id.ensures.found.0 c.in_ok-id.id c.in_ok-id.ensures.found.1
    c.descend_to.new.self c.descend_to.new.space c.descend_to.ensures.visits.looks c.in_ok-copies.copies.items c.in_ok-copies.copies.next c.in_ok-copies.ensures.copies (inr c.if-next-eq0.true)

pub copies_of-requires-then-len-eq0-clause-ready : goal.copies_of-requires-then-len-eq0-clause-ready
copies_of-requires-then-len-eq0-clause-ready g c =
    looks_ready g.R.S.Space g.R.Records g.O.Order c.args.self.now c.copies_of.new.self.cache c.copies_of.new.self.store c.args.space.now c.copies_of.new.space
    (looks_then g.R.S.Space g.R.Records c.args.self.now.cache c.descend_to.new.self.cache c.copies_of.new.self.cache c.args.self.now.store c.descend_to.new.self.store c.copies_of.new.self.store c.args.space.now c.descend_to.new.space c.copies_of.new.space c.descend_to.ensures.visits.looks c.copies_of.ensures.visits.looks) c.requires

pub copies_of-requires-then-len-eq0-clause-there : goal.copies_of-requires-then-len-eq0-clause-there
copies_of-requires-then-len-eq0-clause-there g c =
    onward_there g.R.S.Space g.R.Records g.O.Order g.met.O.Order.total g.met.O.Order.exact (g.C.Cut.side_of c.args.cut.now) (g.met.C.Cut.never_falls c.args.cut.now) c.args.self.now c.args.space.now c.in_ok-id.ensures.found.0 c.in_ok-id.id c.in_ok-id.ensures.found.1
    c.descend_to.new.self c.descend_to.new.space c.descend_to.ensures.visits.looks c.in_ok-copies.copies.items c.in_ok-copies.copies.next c.in_ok-copies.ensures.copies c.if-next-eq0.false c.copies_of.new.self c.copies_of.new.space
    (looks_then g.R.S.Space g.R.Records c.args.self.now.cache c.descend_to.new.self.cache c.copies_of.new.self.cache c.args.self.now.store c.descend_to.new.self.store c.copies_of.new.self.store c.args.space.now c.descend_to.new.space c.copies_of.new.space c.descend_to.ensures.visits.looks c.copies_of.ensures.visits.looks) c.requires

pub returns-in_err-more-clause-asks : goal.returns-in_err-more-clause-asks
returns-in_err-more-clause-asks g c =
    asks_of _ _ _ _ _ _ _ _ _ _ (visits_most g.R.S.Space g.R.Records (c.args.self.now.height - 1 + 1 + 1) (c.args.self.now.height + 1) c.args.self.now c.copies_of-then-len-eq0.new.self c.args.steps.now c.copies_of-then-len-eq0.new.steps c.args.space.now c.copies_of-then-len-eq0.new.space (omega (arith, c.args.self.now.rows)) (visits_then g.R.S.Space g.R.Records (c.args.self.now.height - 1 + 1) 1 c.args.self.now c.copies_of.new.self c.copies_of-then-len-eq0.new.self c.args.steps.now c.copies_of.new.steps c.copies_of-then-len-eq0.new.steps c.args.space.now c.copies_of.new.space c.copies_of-then-len-eq0.new.space (visits_then g.R.S.Space g.R.Records (c.args.self.now.height - 1) 1 c.args.self.now c.descend_to.new.self c.copies_of.new.self c.args.steps.now c.descend_to.new.steps c.copies_of.new.steps c.args.space.now c.descend_to.new.space c.copies_of.new.space c.descend_to.ensures.visits c.copies_of.ensures.visits) c.copies_of-then-len-eq0.ensures.visits))

pub returns-then-len-eq0-clause-asks : goal.returns-then-len-eq0-clause-asks
returns-then-len-eq0-clause-asks g c =
    asks_of _ _ _ _ _ _ _ _ _ _ (visits_most g.R.S.Space g.R.Records (c.args.self.now.height - 1 + 1 + 1) (c.args.self.now.height + 1) c.args.self.now c.copies_of-then-len-eq0.new.self c.args.steps.now c.copies_of-then-len-eq0.new.steps c.args.space.now c.copies_of-then-len-eq0.new.space (omega (arith, c.args.self.now.rows)) (visits_then g.R.S.Space g.R.Records (c.args.self.now.height - 1 + 1) 1 c.args.self.now c.copies_of.new.self c.copies_of-then-len-eq0.new.self c.args.steps.now c.copies_of.new.steps c.copies_of-then-len-eq0.new.steps c.args.space.now c.copies_of.new.space c.copies_of-then-len-eq0.new.space (visits_then g.R.S.Space g.R.Records (c.args.self.now.height - 1) 1 c.args.self.now c.descend_to.new.self c.copies_of.new.self c.args.steps.now c.descend_to.new.steps c.copies_of.new.steps c.args.space.now c.descend_to.new.space c.copies_of.new.space c.descend_to.ensures.visits c.copies_of.ensures.visits) c.copies_of-then-len-eq0.ensures.visits))

pub returns-then-len-eq0-clause-items : goal.returns-then-len-eq0-clause-items
returns-then-len-eq0-clause-items g c =
    seeks_onward g.R.S.Space g.R.Records g.O.Order g.met.O.Order.total g.met.O.Order.exact (g.C.Cut.side_of c.args.cut.now) (g.met.C.Cut.never_falls c.args.cut.now) c.args.self.now c.args.space.now c.in_ok-id.ensures.found.0 c.in_ok-id.id c.in_ok-id.ensures.found.1
    c.descend_to.new.self c.descend_to.new.space c.descend_to.ensures.visits.looks c.in_ok-copies.copies.items c.in_ok-copies.copies.next c.in_ok-copies.ensures.copies c.if-next-eq0.false c.copies_of.new.self c.copies_of.new.space
    (looks_then g.R.S.Space g.R.Records c.args.self.now.cache c.descend_to.new.self.cache c.copies_of.new.self.cache c.args.self.now.store c.descend_to.new.self.store c.copies_of.new.self.store c.args.space.now c.descend_to.new.space c.copies_of.new.space c.descend_to.ensures.visits.looks c.copies_of.ensures.visits.looks) c.in_ok-more.more.items c.in_ok-more.more.next (empty_list _ (sym c.len-len.ensures ∙ c.if-len-eq0.true)) c.in_ok-more.ensures.copies

pub returns-clause-items : goal.returns-clause-items
returns-clause-items g c =
    seeks_here g.R.S.Space g.R.Records g.O.Order g.met.O.Order.total g.met.O.Order.exact (g.C.Cut.side_of c.args.cut.now) (g.met.C.Cut.never_falls c.args.cut.now) c.args.self.now c.args.space.now c.in_ok-id.ensures.found.0 c.in_ok-id.id c.in_ok-id.ensures.found.1
    c.descend_to.new.self c.descend_to.new.space c.descend_to.ensures.visits.looks c.in_ok-copies.copies.items c.in_ok-copies.copies.next c.in_ok-copies.ensures.copies (inl (omega (arith, c.len-len.ensures, c.if-len-eq0.false)))
