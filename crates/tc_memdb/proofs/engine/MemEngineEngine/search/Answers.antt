use Rattle.tc_engine.specs.Changes.{found_by}
use Rattle.tc_engine.specs.Tables.{makes_none, none_found, none_said}
use Rattle.tc_memdb.specs.Holding.{never_table}
use Rattle.tc_memdb.specs.Making.{Holds}
use Rattle.ty_base.specs.Holding.{no_layout}
use Rattle.tc_memdb.proofs.engine.MemEngineEngine.search.Goals as goal

pub returns-clause-makes : goal.returns-clause-makes
returns-clause-makes c = makes_none _ (λ file. ⊥) no_layout Holds (found_by _) _ _ c.requires.sound (λ m h. none_found m _ (never_table _ m h.1))

pub returns-clause-says : goal.returns-clause-says
returns-clause-says c = λ m h. none_said m _ _ (never_table _ m h.1)
