use Rattle.tc_engine.specs.Changes.{found_by}
use Rattle.tc_engine.specs.Tables.{makes_none, none_found, none_said}
use Rattle.tc_space.specs.Stores.{Only}
use Rattle.tc_treedb.specs.Holding.{HoldsPairs}
use Rattle.tc_treedb.specs.Laws.{never_table}
use Rattle.tc_treedb.specs.Layouts.{layout_of}
use Rattle.tc_treedb.proofs.engine.TreeEngineEngine.search.Goals as goal

pub returns-clause-makes : goal.returns-clause-makes
returns-clause-makes g c = makes_none g.S.Space (Only 0) layout_of HoldsPairs (found_by _) _ _ c.requires.sound (λ m h. none_found m _ (never_table _ _ m h.1))

pub returns-clause-says : goal.returns-clause-says
returns-clause-says g c = λ m h. none_said m _ _ (never_table _ _ m h.1)
