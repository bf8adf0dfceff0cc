use Rattle.tc_engine.specs.Changes.{index_set}
use Rattle.tc_engine.specs.Tables.{makes_none, no_index}
use Rattle.tc_space.specs.Stores.{Only}
use Rattle.tc_treedb.specs.Holding.{HoldsPairs}
use Rattle.tc_treedb.specs.Laws.{never_table}
use Rattle.tc_treedb.specs.Layouts.{layout_of}
use Rattle.tc_treedb.proofs.engine.TreeEngineEngine.set_index.Goals as goal

pub returns-clause-makes : goal.returns-clause-makes
returns-clause-makes g c = makes_none g.S.Space (Only 0) layout_of HoldsPairs (index_set _ _) _ _ c.requires.sound (λ m h. no_index m _ _ (never_table _ _ m h.1))
