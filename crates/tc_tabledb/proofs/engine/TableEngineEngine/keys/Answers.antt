use Rattle.std.proofs.Common.{refl}
use Rattle.std.specs.FinMap.{keys}
use Rattle.tc_model.specs.Stores.{all_keys}
use Rattle.tc_tabledb.proofs.Lifting.{find_up, ready_down, still_up}
use Rattle.tc_tabledb.proofs.engine.TableEngineEngine.keys.Goals as goal

pub all_keys-requires : goal.all_keys-requires
all_keys-requires g c = ready_down g.S.Space _ _ _ c.args.self.now c.args.space.now c.requires

pub returns-clause-reads : goal.returns-clause-reads
returns-clause-reads g c = still_up g.S.Space _ _ _ _ _ _ _ refl c.all_keys.ensures.reads.stays c.all_keys.ensures.reads.rows

pub returns-clause-value : goal.returns-clause-value
returns-clause-value g c = find_up g.S.Space _ _ _ c.all_keys.result (λ rows. keys rows) all_keys c.args.self.now c.args.space.now (λ rows indexes. refl) c.all_keys.ensures.keys
