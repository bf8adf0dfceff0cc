use Rattle.std.proofs.Common.{◌∙◌, ap, refl, arith}
use Rattle.bt_rows.specs.declared.head.TreeHead.{TreeHead}
use Rattle.bt_tree.proofs.Ranges.{passes_of, passes_then, scans_of, passed_ready, first_there}
use Rattle.bt_tree.proofs.Visitings.{cheap_rows, next_visited, visiting_all, visiting_done, visiting_first, visiting_more, visiting_stops}
use Rattle.bt_tree.proofs.tree.Tree.visit.Goals as goal

pub returns-in_err-first-clause-stays : goal.returns-in_err-first-clause-stays
returns-in_err-first-clause-stays g c =
    g.met.T.Taker.stays_refl c.args.taker.now

pub returns-in_err-first-clause-asks : goal.returns-in_err-first-clause-asks
returns-in_err-first-clause-asks g c =
    scans_of g.R.S.Space g.R.Records g.O.Order _ _ _ _ _ _ (passes_of g.R.S.Space g.R.Records _ _ _ _ _ _ _ c.descend_to.ensures.visits)

pub returns-in_err-first-clause-cost : goal.returns-in_err-first-clause-cost
returns-in_err-first-clause-cost g c =
    cheap_rows g.R.S.Space g.R.Records g.O.Order g.met.O.Order.total g.met.O.Order.exact (g.C.Cut.side_of c.args.cut.now) (g.met.C.Cut.never_falls c.args.cut.now) g.T.Taker.takes c.args.self.now c.args.space.now c.args.steps.now c.args.taker.now c.descend_to.new.steps (omega (arith, c.descend_to.ensures.visits.pages.within))

pub visit_leaf-requires-clause-ready : goal.visit_leaf-requires-clause-ready
visit_leaf-requires-clause-ready g c =
    passed_ready g.R.S.Space g.R.Records g.O.Order g.met.O.Order.total g.met.O.Order.exact (g.C.Cut.side_of c.args.cut.now) (g.met.C.Cut.never_falls c.args.cut.now) 0 c.args.self.now c.args.space.now c.args.steps.now c.requires
    c.descend_to.new.self c.descend_to.new.space c.descend_to.new.steps (passes_of g.R.S.Space g.R.Records _ _ _ _ _ _ _ c.descend_to.ensures.visits)

pub visit_leaf-requires-clause-there : goal.visit_leaf-requires-clause-there
visit_leaf-requires-clause-there g c =
    first_there g.R.S.Space g.R.Records g.O.Order g.met.O.Order.total g.met.O.Order.exact (g.C.Cut.side_of c.args.cut.now) (g.met.C.Cut.never_falls c.args.cut.now) 0 c.args.self.now c.args.space.now c.args.steps.now c.requires
    c.descend_to.new.self c.descend_to.new.space c.descend_to.new.steps c.in_ok-first.first (passes_of g.R.S.Space g.R.Records _ _ _ _ _ _ _ c.descend_to.ensures.visits) c.in_ok-first.ensures.found

pub returns-in_err-next-clause-asks : goal.returns-in_err-next-clause-asks
returns-in_err-next-clause-asks g c =
    scans_of g.R.S.Space g.R.Records g.O.Order _ _ _ _ _ _
    (passes_then g.R.S.Space g.R.Records _ _ _ _ _ _ _ _ _ (passes_of g.R.S.Space g.R.Records _ _ _ _ _ _ _ c.descend_to.ensures.visits) (passes_of g.R.S.Space g.R.Records _ _ _ _ _ _ _ c.visit_leaf.ensures.visits))

pub returns-in_err-next-clause-cost : goal.returns-in_err-next-clause-cost
returns-in_err-next-clause-cost g c =
    cheap_rows g.R.S.Space g.R.Records g.O.Order g.met.O.Order.total g.met.O.Order.exact (g.C.Cut.side_of c.args.cut.now) (g.met.C.Cut.never_falls c.args.cut.now) g.T.Taker.takes c.args.self.now c.args.space.now c.args.steps.now c.args.taker.now c.visit_leaf.new.steps (omega (arith, c.descend_to.ensures.visits.pages.within, c.visit_leaf.ensures.visits.pages.within, c.args.self.now.rows))

pub loop-i-init : goal.loop-i-init
loop-i-init g c = (
  visiting_first g.R.S.Space g.R.Records g.O.Order g.met.O.Order.total g.met.O.Order.exact (g.C.Cut.side_of c.args.cut.now) (g.met.C.Cut.never_falls c.args.cut.now) g.T.Taker.takes c.args.self.now c.args.space.now c.args.steps.now c.args.taker.now
      c.descend_to.new.self c.visit_leaf.new.self c.descend_to.new.space c.visit_leaf.new.space c.descend_to.new.steps c.visit_leaf.new.steps c.args.taker.now c.visit_leaf.new.taker c.in_ok-first.first c.in_ok-next.next
      (passes_of g.R.S.Space g.R.Records _ _ _ _ _ _ _ c.descend_to.ensures.visits) c.visit_leaf.ensures.visits c.in_ok-next.ensures.shown refl c.descend_to.ensures.visits.pages.within c.args.self.now.rows c.in_ok-first.ensures.found,
  c.visit_leaf.ensures.stays,
)

pub returns-then-next-eq0-clause-shown : goal.returns-then-next-eq0-clause-shown
returns-then-next-eq0-clause-shown g c =
    visiting_done g.R.S.Space g.R.Records g.O.Order g.met.O.Order.total g.met.O.Order.exact (g.C.Cut.side_of c.args.cut.now) (g.met.C.Cut.never_falls c.args.cut.now) g.T.Taker.takes c.args.self.now c.args.space.now c.args.steps.now c.args.taker.now c.loop-i.self c.loop-i.space c.loop-i.steps c.loop-i.taker c.loop-i.next c.loop-i.i c.if-next-eq0.true c.loop-i.invariant.0

pub returns-then-next-eq0-clause-stays : goal.returns-then-next-eq0-clause-stays
returns-then-next-eq0-clause-stays g c =
    c.loop-i.invariant.1

pub returns-then-next-eq0-clause-asks : goal.returns-then-next-eq0-clause-asks
returns-then-next-eq0-clause-asks g c =
    scans_of g.R.S.Space g.R.Records g.O.Order _ _ _ _ _ _ c.loop-i.invariant.0.passes

pub returns-then-next-eq0-clause-cost : goal.returns-then-next-eq0-clause-cost
returns-then-next-eq0-clause-cost g c =
    c.loop-i.invariant.0.costs

pub visit_leaf-requires-in-loop-i-clause-ready : goal.visit_leaf-requires-in-loop-i-clause-ready
visit_leaf-requires-in-loop-i-clause-ready g c =
    passed_ready g.R.S.Space g.R.Records g.O.Order g.met.O.Order.total g.met.O.Order.exact (g.C.Cut.side_of c.args.cut.now) (g.met.C.Cut.never_falls c.args.cut.now) 0 c.args.self.now c.args.space.now c.args.steps.now c.requires
    c.loop-i.self c.loop-i.space c.loop-i.steps c.loop-i.invariant.0.passes

pub visit_leaf-requires-in-loop-i-clause-there : goal.visit_leaf-requires-in-loop-i-clause-there
visit_leaf-requires-in-loop-i-clause-there g c =
    next_visited g.R.S.Space g.R.Records g.O.Order g.met.O.Order.total g.met.O.Order.exact (g.C.Cut.side_of c.args.cut.now) (g.met.C.Cut.never_falls c.args.cut.now) g.T.Taker.takes c.args.self.now c.args.space.now c.args.steps.now c.args.taker.now c.requires
    c.loop-i.self c.loop-i.space c.loop-i.steps c.loop-i.taker c.loop-i.next c.loop-i.i c.if-next-eq0.false c.loop-i.invariant.0

pub returns-in_err-onward-clause-stays : goal.returns-in_err-onward-clause-stays
returns-in_err-onward-clause-stays g c =
    g.met.T.Taker.stays_then c.args.taker.now c.loop-i.taker c.visit_leaf-in-loop-i.new.taker c.loop-i.invariant.1 c.visit_leaf-in-loop-i.ensures.stays

pub returns-in_err-onward-clause-asks : goal.returns-in_err-onward-clause-asks
returns-in_err-onward-clause-asks g c =
    scans_of g.R.S.Space g.R.Records g.O.Order _ _ _ _ _ _
    (visiting_stops g.R.S.Space g.R.Records g.O.Order g.met.O.Order.total g.met.O.Order.exact (g.C.Cut.side_of c.args.cut.now) (g.met.C.Cut.never_falls c.args.cut.now) g.T.Taker.takes c.args.self.now c.args.space.now c.args.steps.now c.args.taker.now
    c.loop-i.self c.visit_leaf-in-loop-i.new.self c.loop-i.space c.visit_leaf-in-loop-i.new.space c.loop-i.steps c.visit_leaf-in-loop-i.new.steps c.loop-i.taker c.loop-i.next c.loop-i.i c.if-next-eq0.false c.loop-i.invariant.0 (omega (arith, c.loop-i-test.true, ap (λ (y : TreeHead). y.pairs) (c.visit_leaf.ensures.visits.stays.head ∙ c.descend_to.ensures.visits.stays.head))) c.visit_leaf-in-loop-i.ensures.visits).0

pub returns-in_err-onward-clause-cost : goal.returns-in_err-onward-clause-cost
returns-in_err-onward-clause-cost g c =
    (visiting_stops g.R.S.Space g.R.Records g.O.Order g.met.O.Order.total g.met.O.Order.exact (g.C.Cut.side_of c.args.cut.now) (g.met.C.Cut.never_falls c.args.cut.now) g.T.Taker.takes c.args.self.now c.args.space.now c.args.steps.now c.args.taker.now
    c.loop-i.self c.visit_leaf-in-loop-i.new.self c.loop-i.space c.visit_leaf-in-loop-i.new.space c.loop-i.steps c.visit_leaf-in-loop-i.new.steps c.loop-i.taker c.loop-i.next c.loop-i.i c.if-next-eq0.false c.loop-i.invariant.0 (omega (arith, c.loop-i-test.true, ap (λ (y : TreeHead). y.pairs) (c.visit_leaf.ensures.visits.stays.head ∙ c.descend_to.ensures.visits.stays.head))) c.visit_leaf-in-loop-i.ensures.visits).1

pub loop-i-preserved : goal.loop-i-preserved
loop-i-preserved g c = (
  visiting_more g.R.S.Space g.R.Records g.O.Order g.met.O.Order.total g.met.O.Order.exact (g.C.Cut.side_of c.args.cut.now) (g.met.C.Cut.never_falls c.args.cut.now) g.T.Taker.takes c.args.self.now c.args.space.now c.args.steps.now c.args.taker.now
      c.loop-i.self c.visit_leaf-in-loop-i.new.self c.loop-i.space c.visit_leaf-in-loop-i.new.space c.loop-i.steps c.visit_leaf-in-loop-i.new.steps c.loop-i.taker c.loop-i.next c.loop-i.i c.if-next-eq0.false c.loop-i.invariant.0 (omega (arith, c.loop-i-test.true, ap (λ (y : TreeHead). y.pairs) (c.visit_leaf.ensures.visits.stays.head ∙ c.descend_to.ensures.visits.stays.head))) c.visit_leaf-in-loop-i.ensures.visits c.visit_leaf-in-loop-i.new.taker c.in_ok-onward.onward c.in_ok-onward.ensures.shown,
  g.met.T.Taker.stays_then c.args.taker.now c.loop-i.taker c.visit_leaf-in-loop-i.new.taker c.loop-i.invariant.1 c.visit_leaf-in-loop-i.ensures.stays,
)

pub returns-clause-shown : goal.returns-clause-shown
returns-clause-shown g c =
    visiting_all g.R.S.Space g.R.Records g.O.Order g.met.O.Order.total g.met.O.Order.exact (g.C.Cut.side_of c.args.cut.now) (g.met.C.Cut.never_falls c.args.cut.now) g.T.Taker.takes c.args.self.now c.args.space.now c.args.steps.now c.args.taker.now c.loop-i.self c.loop-i.space c.loop-i.steps c.loop-i.taker c.loop-i.next c.loop-i.i (omega (arith, c.loop-i-test.false, ap (λ (y : TreeHead). y.pairs) (c.visit_leaf.ensures.visits.stays.head ∙ c.descend_to.ensures.visits.stays.head))) c.loop-i.invariant.0

pub returns-clause-stays : goal.returns-clause-stays
returns-clause-stays g c =
    c.loop-i.invariant.1

pub returns-clause-asks : goal.returns-clause-asks
returns-clause-asks g c =
    scans_of g.R.S.Space g.R.Records g.O.Order _ _ _ _ _ _ c.loop-i.invariant.0.passes

pub returns-clause-cost : goal.returns-clause-cost
returns-clause-cost g c =
    c.loop-i.invariant.0.costs
