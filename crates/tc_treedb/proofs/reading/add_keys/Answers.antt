use Rattle.std.proofs.Common.{List, refl, subst, ℕ}
use Rattle.std.specs.Prelude.{map}
use Rattle.tc_engine.specs.Changes.{first_of}
use Rattle.tc_engine.specs.Rows.{Adds, item_row}
use Rattle.tc_btree.specs.Rising.{pairs_rise}
use Rattle.tc_hash.proofs.Stored.{from_done}
use Rattle.tc_treedb.proofs.Looked.{front_over, looks_scans}
use Rattle.tc_treedb.proofs.Readings.{begun_inside, begun_visited}
use Rattle.tc_treedb.proofs.reading.add_keys.Goals as goal

pub returns-clause-rows : goal.returns-clause-rows
returns-clause-rows g c = from_done c.visit-done.result c.visit-done.ensures.shown (λ shown. λ ps h.
    subst (λ (l : List (List ℕ)). Adds c.args.into.now c.given_back.new.rows (map item_row (first_of c.args.most l)))
    (begun_inside g.O.Order.cmp g.met.O.Order.total g.met.O.Order.exact c.args.prefix.now (g.C.Cut.side_of c.args.cut.now) ps c.requires.inside (pairs_rise c.args.tree.now _ ps h.1 g.met.O.Order.total g.met.O.Order.exact))
    (begun_visited g.O.Order.cmp g.met.O.Order.total _ _ _ _ c.args.most c.args.prefix.now _ c.visit-done.new.taker c.args.into.now c.given_back.new.rows c.taken_over.ensures c.given_back.ensures refl refl (shown ps h)))

pub returns-clause-front : goal.returns-clause-front
returns-clause-front g c = front_over _ _ _ _ c.taken_over.ensures c.given_back.ensures c.visit-done.ensures.stays

pub returns-clause-looks : goal.returns-clause-looks
returns-clause-looks g c = looks_scans g.R.S.Space g.R.Records g.O.Order _ _ _ _ _ _ c.visit-done.ensures.asks
