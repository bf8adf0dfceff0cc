use Rattle.std.proofs.Common.{List, ℕ, ap, map, refl}
use Rattle.tc_engine.specs.Changes.{first_of}
use Rattle.tc_engine.specs.Rows.{item_row}
use Rattle.tc_model.specs.Apply.{keys_from}
use Rattle.tc_treedb.specs.Lifting.{adds_up, ready_down, reads_up}
use Rattle.tc_treedb.specs.Reading.{keys_beginning}
use Rattle.tc_treedb.proofs.engine.TreeEngineEngine.keys_from.Goals as goal

pub add_keys-requires : goal.add_keys-requires
add_keys-requires g c = ready_down g.S.Space c.args.self.now c.args.space.now c.requires

pub returns-clause-rows : goal.returns-clause-rows
returns-clause-rows g c = adds_up g.S.Space c.add_keys.result (λ m. map item_row (first_of c.args.most (keys_beginning c.as_slice.result.now m.1))) (λ d. map item_row (first_of c.args.most (keys_from d c.args.prefix.now))) c.args.self.now c.args.space.now c.args.into.now c.add_keys.new.into (λ m. ap (λ (k : List ℕ). map item_row (first_of c.args.most (keys_beginning k m.1))) c.as_slice.ensures) c.add_keys.ensures.rows

pub returns-clause-reads : goal.returns-clause-reads
returns-clause-reads g c = reads_up g.S.Space _ _ _ _ c.add_keys.ensures.looks.reads refl
