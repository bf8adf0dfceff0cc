use Rattle.tc_engine.specs.Changes.{index_set}
use Rattle.tc_engine.specs.Tables.{makes_none, no_index}
use Rattle.tc_memdb.specs.Holding.{never_table}
use Rattle.tc_memdb.specs.Making.{Holds}
use Rattle.ty_base.specs.Holding.{no_layout}
use Rattle.tc_memdb.proofs.engine.MemEngineEngine.set_index.Goals as goal

pub returns-clause-makes : goal.returns-clause-makes
returns-clause-makes c = makes_none _ (λ file. ⊥) no_layout Holds (index_set _ _) _ _ c.requires.sound (λ m h. no_index m _ _ (never_table _ m h.1))
