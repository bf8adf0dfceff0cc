use Rattle.std.proofs.Common.{List, ℕ, ap, refl}
use Rattle.std.specs.Prelude.{option_map}
use Rattle.std.specs.FinMap.{get}
use Rattle.tc_model.specs.Rows.{row_text}
use Rattle.tc_model.specs.Stores.{held}
use Rattle.tc_tabledb.proofs.Lifting.{find_up, ready_down, still_up}
use Rattle.tc_tabledb.proofs.engine.TableEngineEngine.value.Goals as goal

pub text_at-requires : goal.text_at-requires
text_at-requires g c = ready_down g.S.Space _ _ _ c.args.self.now c.args.space.now c.requires

pub returns-clause-reads : goal.returns-clause-reads
returns-clause-reads g c = still_up g.S.Space _ _ _ _ _ _ _ refl c.text_at.ensures.reads.stays c.text_at.ensures.reads.rows

pub returns-clause-value : goal.returns-clause-value
returns-clause-value g c = find_up g.S.Space _ _ _ c.text_at.result (λ rows. option_map row_text (get rows c.as_slice.result.now)) (λ x. held x c.args.key.now) c.args.self.now c.args.space.now (λ rows indexes. ap (λ (k : List ℕ). option_map row_text (get rows k)) c.as_slice.ensures) c.text_at.ensures.text

pub returns-clause-fills : goal.returns-clause-fills
returns-clause-fills g c = λ t new x y full. full
