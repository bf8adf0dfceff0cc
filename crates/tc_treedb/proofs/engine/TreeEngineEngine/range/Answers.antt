use Rattle.std.proofs.Common.{refl}
use Rattle.std.specs.Prelude.{option_map}
use Rattle.tc_base.specs.Orders.{order}
use Rattle.tc_engine.specs.Rows.{text_rows}
use Rattle.tc_model.specs.Meaning.{ranged}
use Rattle.tc_treedb.specs.Lifting.{adds_up, ready_down, reads_up}
use Rattle.tc_treedb.specs.Reading.{pairs_in}
use Rattle.tc_treedb.proofs.engine.TreeEngineEngine.range.Goals as goal

pub add_range-requires : goal.add_range-requires
add_range-requires g c = ready_down g.S.Space c.args.self.now c.args.space.now c.requires

pub returns-clause-rows : goal.returns-clause-rows
returns-clause-rows g c = adds_up g.S.Space c.add_range.result (λ m. text_rows (pairs_in (order m.0) c.as_slice.result.now (option_map (λ k. k.now) c.text_of-to.result) c.args.most m.1))
    (λ d. text_rows (ranged d c.args.from.now (option_map (λ k. k.now) c.args.to) c.args.most)) c.args.self.now c.args.space.now c.args.into.now c.add_range.new.into
    (λ m. λ i. text_rows (pairs_in (order m.0) (c.as_slice.ensures i) (c.text_of-to.ensures i) c.args.most m.1)) c.add_range.ensures.rows

pub returns-clause-reads : goal.returns-clause-reads
returns-clause-reads g c = reads_up g.S.Space _ _ _ _ c.add_range.ensures.looks.reads refl
