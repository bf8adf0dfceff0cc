use Rattle.std.proofs.Common.{arith}
use Rattle.bt_tree.proofs.Ranges.{passes_of, passes_then, scans_of, passed_ready, first_there, next_there, scanning_first, scanning_stops, scanning_more, scanning_value}
use Rattle.bt_tree.proofs.tree.Tree.range.Goals as goal

pub returns-in_err-first-clause-asks : goal.returns-in_err-first-clause-asks
returns-in_err-first-clause-asks g c = scans_of g.R.S.Space g.R.Records g.O.Order _ _ _ _ _ _ (passes_of g.R.S.Space g.R.Records _ _ _ _ _ _ _ c.descend_to.ensures.visits)

pub scan-requires-clause-ready : goal.scan-requires-clause-ready
scan-requires-clause-ready g c =
    passed_ready g.R.S.Space g.R.Records g.O.Order g.met.O.Order.total g.met.O.Order.exact (g.C.Cut.side_of c.args.cut.now) (g.met.C.Cut.never_falls c.args.cut.now) c.args.max c.args.self.now c.args.space.now c.args.steps.now c.requires
    c.descend_to.new.self c.descend_to.new.space c.descend_to.new.steps (passes_of g.R.S.Space g.R.Records _ _ _ _ _ _ _ c.descend_to.ensures.visits)

pub scan-requires-clause-there : goal.scan-requires-clause-there
scan-requires-clause-there g c =
    first_there g.R.S.Space g.R.Records g.O.Order g.met.O.Order.total g.met.O.Order.exact (g.C.Cut.side_of c.args.cut.now) (g.met.C.Cut.never_falls c.args.cut.now) c.args.max c.args.self.now c.args.space.now c.args.steps.now c.requires
    c.descend_to.new.self c.descend_to.new.space c.descend_to.new.steps c.in_ok-first.first (passes_of g.R.S.Space g.R.Records _ _ _ _ _ _ _ c.descend_to.ensures.visits) c.in_ok-first.ensures.found

pub returns-in_err-next-clause-asks : goal.returns-in_err-next-clause-asks
returns-in_err-next-clause-asks g c =
    scans_of g.R.S.Space g.R.Records g.O.Order _ _ _ _ _ _
    (passes_then g.R.S.Space g.R.Records _ _ _ _ _ _ _ _ _ (passes_of g.R.S.Space g.R.Records _ _ _ _ _ _ _ c.descend_to.ensures.visits) (passes_of g.R.S.Space g.R.Records _ _ _ _ _ _ _ c.scan.ensures.visits))

pub leaves-init : goal.leaves-init
leaves-init g c =
    scanning_first g.R.S.Space g.R.Records g.O.Order g.met.O.Order.total g.met.O.Order.exact (g.C.Cut.side_of c.args.cut.now) (g.met.C.Cut.never_falls c.args.cut.now) c.args.max c.args.self.now c.args.space.now c.args.steps.now
    c.descend_to.new.self c.scan.new.self c.descend_to.new.space c.scan.new.space c.descend_to.new.steps c.scan.new.steps c.new-pairs.result c.scan.new.pairs c.in_ok-first.first c.in_ok-next.next
    (passes_of g.R.S.Space g.R.Records _ _ _ _ _ _ _ c.descend_to.ensures.visits) c.scan.ensures.visits c.in_ok-next.ensures.scanned c.new-pairs.ensures c.descend_to.ensures.visits.pages.within c.args.self.now.rows c.in_ok-next.ensures.room c.in_ok-first.ensures.found

pub scan-requires-in-leaves-clause-ready : goal.scan-requires-in-leaves-clause-ready
scan-requires-in-leaves-clause-ready g c =
    passed_ready g.R.S.Space g.R.Records g.O.Order g.met.O.Order.total g.met.O.Order.exact (g.C.Cut.side_of c.args.cut.now) (g.met.C.Cut.never_falls c.args.cut.now) c.args.max c.args.self.now c.args.space.now c.args.steps.now c.requires
    c.leaves.self c.leaves.space c.leaves.steps c.leaves.invariant.passes

pub scan-requires-in-leaves-clause-there : goal.scan-requires-in-leaves-clause-there
scan-requires-in-leaves-clause-there g c =
    next_there g.R.S.Space g.R.Records g.O.Order g.met.O.Order.total g.met.O.Order.exact (g.C.Cut.side_of c.args.cut.now) (g.met.C.Cut.never_falls c.args.cut.now) c.args.max c.args.self.now c.args.space.now c.args.steps.now c.requires
    c.leaves.self c.leaves.space c.leaves.steps c.leaves.pairs c.leaves.next c.leaves-test.true c.leaves.invariant

pub returns-in_err-onward-clause-asks : goal.returns-in_err-onward-clause-asks
returns-in_err-onward-clause-asks g c =
    scans_of g.R.S.Space g.R.Records g.O.Order _ _ _ _ _ _
    (scanning_stops g.R.S.Space g.R.Records g.O.Order g.met.O.Order.total g.met.O.Order.exact (g.C.Cut.side_of c.args.cut.now) (g.met.C.Cut.never_falls c.args.cut.now) c.args.max c.args.self.now c.args.space.now c.args.steps.now
    c.leaves.self c.scan-in-leaves.new.self c.leaves.space c.scan-in-leaves.new.space c.leaves.steps c.scan-in-leaves.new.steps c.leaves.pairs c.scan-in-leaves.new.pairs c.leaves.next c.leaves-test.true c.leaves.invariant c.scan-in-leaves.ensures.visits).0

pub returns-in_err-onward-clause-cost : goal.returns-in_err-onward-clause-cost
returns-in_err-onward-clause-cost g c =
    (scanning_stops g.R.S.Space g.R.Records g.O.Order g.met.O.Order.total g.met.O.Order.exact (g.C.Cut.side_of c.args.cut.now) (g.met.C.Cut.never_falls c.args.cut.now) c.args.max c.args.self.now c.args.space.now c.args.steps.now
    c.leaves.self c.scan-in-leaves.new.self c.leaves.space c.scan-in-leaves.new.space c.leaves.steps c.scan-in-leaves.new.steps c.leaves.pairs c.scan-in-leaves.new.pairs c.leaves.next c.leaves-test.true c.leaves.invariant c.scan-in-leaves.ensures.visits).1

pub returns-clause-value : goal.returns-clause-value
returns-clause-value g c =
    scanning_value g.R.S.Space g.R.Records g.O.Order g.met.O.Order.total g.met.O.Order.exact (g.C.Cut.side_of c.args.cut.now) (g.met.C.Cut.never_falls c.args.cut.now) c.args.max c.args.self.now c.args.space.now c.args.steps.now
    c.leaves.self c.leaves.space c.leaves.steps c.leaves.pairs c.leaves.next c.leaves-test.false c.leaves.invariant

pub returns-clause-asks : goal.returns-clause-asks
returns-clause-asks g c = scans_of g.R.S.Space g.R.Records g.O.Order _ _ _ _ _ _ c.leaves.invariant.passes

pub leaves-preserved : goal.leaves-preserved
leaves-preserved g c =
    scanning_more g.R.S.Space g.R.Records g.O.Order g.met.O.Order.total g.met.O.Order.exact (g.C.Cut.side_of c.args.cut.now) (g.met.C.Cut.never_falls c.args.cut.now) c.args.max c.args.self.now c.args.space.now c.args.steps.now
    c.leaves.self c.scan-in-leaves.new.self c.leaves.space c.scan-in-leaves.new.space c.leaves.steps c.scan-in-leaves.new.steps c.leaves.pairs c.scan-in-leaves.new.pairs c.leaves.next c.leaves-test.true c.leaves.invariant c.scan-in-leaves.ensures.visits
    c.in_ok-onward.onward c.if_grown-next.result c.in_ok-onward.ensures.scanned c.in_ok-onward.ensures.room
    (λ some. omega (arith, c.if_grown-next.ensures.grown some, c.len-before.ensures, c.len.ensures))
    (λ more. c.if_grown-next.ensures.same (omega (arith, more, c.len-before.ensures, c.len.ensures)))
