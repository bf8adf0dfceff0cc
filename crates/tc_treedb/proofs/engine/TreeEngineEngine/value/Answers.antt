use Rattle.std.proofs.Common.{List, ℕ, ap, refl}
use Rattle.tc_base.specs.Lists.{first}
use Rattle.tc_model.specs.Stores.{held}
use Rattle.tc_treedb.specs.Lifting.{find_up, ready_down, reads_up}
use Rattle.tc_treedb.proofs.engine.TreeEngineEngine.value.Goals as goal

pub first_value-requires : goal.first_value-requires
first_value-requires g c = ready_down g.S.Space c.args.self.now c.args.space.now c.requires

pub returns-clause-reads : goal.returns-clause-reads
returns-clause-reads g c = reads_up g.S.Space _ _ _ _ c.first_value.ensures.looks.reads refl

pub returns-clause-value : goal.returns-clause-value
returns-clause-value g c = find_up g.S.Space c.first_value.result (λ m. first m.1 c.as_slice.result.now) (λ d. held d c.args.key.now) _ _ (λ m. ap (λ (k : List ℕ). first m.1 k) c.as_slice.ensures) c.first_value.ensures.value

pub returns-clause-fills : goal.returns-clause-fills
returns-clause-fills g c = λ t new d e full. full
