use Rattle.bt_rows.proofs.Ordered.{orders_are_strict}
use Rattle.bt_cursor.specs.Places.{end_of}
use Rattle.bt_cursor.specs.declared.takers.Ends.{Ends}
use Rattle.bt_cursor.proofs.Lookings.{few_visited, first_visited, looks_scanned}
use Rattle.bt_cursor.proofs.looking.first_in.Goals as goal

pub returns-in_err-visit-clause-looks : goal.returns-in_err-visit-clause-looks
returns-in_err-visit-clause-looks g c =
    looks_scanned g.R.S.Space g.R.Records g.O.Order c.args.tree.now c.visit.new.self c.args.space.now c.visit.new.space (g.C.Cut.side_of c.args.cut.now) c.new-steps.result c.visit.new.steps c.new-steps.ensures c.visit.ensures.asks c.visit.ensures.cost

pub returns-clause-looks : goal.returns-clause-looks
returns-clause-looks g c =
    looks_scanned g.R.S.Space g.R.Records g.O.Order c.args.tree.now c.visit.new.self c.args.space.now c.visit.new.space (g.C.Cut.side_of c.args.cut.now) c.new-steps.result c.visit.new.steps c.new-steps.ensures c.visit.ensures.asks c.visit.ensures.cost

pub returns-clause-value : goal.returns-clause-value
returns-clause-value g c =
    first_visited _ end_of (λ (t : Ends). t.found) (λ t u x more k. (k.0, k.1)) g.R.S.Space g.R.Records g.O.Order (orders_are_strict g.O.Order.cmp g.met.O.Order.total g.met.O.Order.exact) (g.C.Cut.side_of c.args.cut.now) c.args.tree.now c.args.space.now _ _ _ _ c.ends-found.ensures c.in_ok-visit.ensures.shown

pub returns-clause-few : goal.returns-clause-few
returns-clause-few g c =
    few_visited _ end_of (λ (t : Ends). t.found) (λ t u x more k. (k.0, k.1)) g.R.S.Space g.R.Records g.O.Order (g.C.Cut.side_of c.args.cut.now) c.args.tree.now c.visit.new.self c.args.space.now c.new-steps.result c.visit.new.steps _ _ c.new-steps.ensures c.visit.ensures.asks.ticks c.in_ok-visit.ensures.shown
