use Rattle.std.proofs.Common.{List, ℕ, ap, length, refl}
use Rattle.std.specs.Prelude.{option_map}
use Rattle.tc_base.specs.Lists.{first}
use Rattle.tc_model.specs.Stores.{held}
use Rattle.tc_treedb.specs.Lifting.{find_up, ready_down, reads_up}
use Rattle.tc_treedb.proofs.engine.TreeEngineEngine.value_len.Goals as goal

pub first_len-requires : goal.first_len-requires
first_len-requires g c = ready_down g.S.Space c.args.self.now c.args.space.now c.requires

pub returns-clause-reads : goal.returns-clause-reads
returns-clause-reads g c = reads_up g.S.Space _ _ _ _ c.first_len.ensures.looks.reads refl

pub returns-clause-value : goal.returns-clause-value
returns-clause-value g c = find_up g.S.Space c.first_len.result (λ m. option_map length (first m.1 c.as_slice.result.now)) (λ d. option_map length (held d c.args.key.now)) _ _ (λ m. ap (λ (k : List ℕ). option_map length (first m.1 k)) c.as_slice.ensures) c.first_len.ensures.value
