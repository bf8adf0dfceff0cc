use Rattle.tc_engine.specs.Changes.{index_set}
use Rattle.tc_engine.specs.Tables.{makes_none, no_index}
use Rattle.tc_space.specs.Stores.{Only}
use Rattle.tc_hashdb.specs.Holding.{HoldsKeys}
use Rattle.tc_hashdb.specs.Laws.{never_table}
use Rattle.tc_hashdb.specs.Layouts.{layout_of}
use Rattle.tc_hashdb.proofs.engine.HashEngineEngine.set_index.Goals as goal

pub returns-clause-makes : goal.returns-clause-makes
returns-clause-makes g c = makes_none g.S.Space (Only 0) layout_of HoldsKeys (index_set _ _) _ _ c.requires.sound (λ m h. no_index m _ _ (never_table _ _ m h.1))
