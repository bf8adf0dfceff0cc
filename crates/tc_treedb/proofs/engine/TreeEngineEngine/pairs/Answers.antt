use Rattle.std.proofs.Common.{List, ℕ, ap, refl}
use Rattle.tc_engine.specs.Rows.{text_rows}
use Rattle.tc_model.specs.Stores.{all_pairs}
use Rattle.tc_treedb.specs.Lifting.{adds_up, ready_down, reads_up}
use Rattle.tc_treedb.specs.Reading.{pairs_of}
use Rattle.tc_treedb.proofs.engine.TreeEngineEngine.pairs.Goals as goal

pub add_pairs-requires : goal.add_pairs-requires
add_pairs-requires g c = ready_down g.S.Space c.args.self.now c.args.space.now c.requires

pub returns-clause-rows : goal.returns-clause-rows
returns-clause-rows g c = adds_up g.S.Space c.add_pairs.result (λ m. text_rows (pairs_of c.as_slice.result.now m.1)) (λ d. text_rows (all_pairs d c.args.key.now)) c.args.self.now c.args.space.now c.args.into.now c.add_pairs.new.into (λ m. ap (λ (k : List ℕ). text_rows (pairs_of k m.1)) c.as_slice.ensures) c.add_pairs.ensures.rows

pub returns-clause-reads : goal.returns-clause-reads
returns-clause-reads g c = reads_up g.S.Space _ _ _ _ c.add_pairs.ensures.looks.reads refl
