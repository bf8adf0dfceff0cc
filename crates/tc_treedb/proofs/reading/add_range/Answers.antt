use Rattle.std.proofs.Common.{List, refl, subst}
use Rattle.std.specs.Prelude.{option_map}
use Rattle.tc_base.specs.declared.seq.Pair.{Pair}
use Rattle.tc_engine.specs.Rows.{Adds, text_rows}
use Rattle.tc_hash.proofs.Stored.{from_done}
use Rattle.tc_treedb.proofs.Looked.{front_over, looks_scans}
use Rattle.tc_treedb.proofs.Readings.{pairs_visited, range_is}
use Rattle.tc_treedb.proofs.reading.add_range.Goals as goal

pub returns-clause-rows : goal.returns-clause-rows
returns-clause-rows g c = from_done c.visit-done.result c.visit-done.ensures.shown (λ shown. λ ps h.
    subst (λ (l : List Pair). Adds c.args.into.now c.given_back.new.rows (text_rows l)) (range_is g.O.Order.cmp c.args.from.now (option_map (λ k. k.now) c.args.to) c.args.most ps)
    (pairs_visited g.O.Order.cmp _ _ _ _ c.args.most _ c.visit-done.new.taker c.args.into.now c.given_back.new.rows c.taken_over.ensures c.given_back.ensures refl (shown ps h)))

pub returns-clause-front : goal.returns-clause-front
returns-clause-front g c = front_over _ _ _ _ c.taken_over.ensures c.given_back.ensures c.visit-done.ensures.stays

pub returns-clause-looks : goal.returns-clause-looks
returns-clause-looks g c = looks_scans g.R.S.Space g.R.Records g.O.Order _ _ _ _ _ _ c.visit-done.ensures.asks
