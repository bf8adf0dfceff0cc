use Rattle.std.proofs.Common.{List, ℕ, ap, map, refl}
use Rattle.std.specs.FinMap.{keys}
use Rattle.tc_engine.specs.Changes.{first_of}
use Rattle.tc_engine.specs.Rows.{item_row}
use Rattle.tc_model.specs.Apply.{keys_from}
use Rattle.tc_treedb.specs.Taking.{beginning}
use Rattle.tc_tabledb.proofs.Lifting.{adds_up, ready_down, still_up}
use Rattle.tc_tabledb.proofs.engine.TableEngineEngine.keys_from.Goals as goal

pub add_keys-requires : goal.add_keys-requires
add_keys-requires g c = ready_down g.S.Space _ _ _ c.args.self.now c.args.space.now c.requires

pub returns-clause-reads : goal.returns-clause-reads
returns-clause-reads g c = still_up g.S.Space _ _ _ _ _ _ _ refl c.add_keys.ensures.reads.stays c.add_keys.ensures.reads.rows

pub returns-clause-rows : goal.returns-clause-rows
returns-clause-rows g c = adds_up g.S.Space _ _ _ c.add_keys.result (λ rows. map item_row (first_of c.args.most (beginning c.as_slice.result.now (keys rows)))) (λ x. map item_row (first_of c.args.most (keys_from x c.args.prefix.now))) c.args.self.now c.args.space.now c.args.into.now c.add_keys.new.into
    (λ rows indexes. ap (λ (p : List ℕ). map item_row (first_of c.args.most (beginning p (keys rows)))) c.as_slice.ensures) c.add_keys.ensures.rows
