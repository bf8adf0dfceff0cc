use Rattle.std.proofs.Common.{refl}
use Rattle.tc_base.specs.Lists.{keys}
use Rattle.tc_model.specs.Stores.{all_keys}
use Rattle.tc_treedb.specs.Lifting.{find_up, ready_down, reads_up}
use Rattle.tc_treedb.proofs.engine.TreeEngineEngine.keys.Goals as goal

pub all_keys-requires : goal.all_keys-requires
all_keys-requires g c = ready_down g.S.Space c.args.self.now c.args.space.now c.requires

pub returns-clause-value : goal.returns-clause-value
returns-clause-value g c = find_up g.S.Space c.all_keys.result (λ m. keys m.1) all_keys _ _ (λ m. refl) c.all_keys.ensures.value

pub returns-clause-reads : goal.returns-clause-reads
returns-clause-reads g c = reads_up g.S.Space _ _ _ _ c.all_keys.ensures.looks.reads refl
