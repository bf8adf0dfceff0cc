use Rattle.std.proofs.Common.{List, ℕ, ap, refl}
use Rattle.std.specs.Prelude.{option_map}
use Rattle.std.specs.FinMap.{get}
use Rattle.tc_model.specs.Meaning.{row_held}
use Rattle.tc_model.specs.Rows.{texts_of}
use Rattle.tc_tabledb.proofs.Lifting.{items_up, ready_down, still_up}
use Rattle.tc_tabledb.proofs.engine.TableEngineEngine.row.Goals as goal

pub add_row-requires : goal.add_row-requires
add_row-requires g c = ready_down g.S.Space _ _ _ c.args.self.now c.args.space.now c.requires

pub returns-clause-reads : goal.returns-clause-reads
returns-clause-reads g c = still_up g.S.Space _ _ _ _ _ _ _ refl c.add_row.ensures.reads.stays c.add_row.ensures.reads.rows

pub returns-clause-value : goal.returns-clause-value
returns-clause-value g c = items_up g.S.Space _ _ _ c.add_row.result (λ rows. option_map texts_of (get rows c.as_slice.result.now)) (λ x. option_map texts_of (row_held x c.args.key.now)) c.args.self.now c.args.space.now c.args.into.now c.add_row.new.into
    (λ rows indexes. ap (λ (k : List ℕ). option_map texts_of (get rows k)) c.as_slice.ensures) c.add_row.ensures.added
