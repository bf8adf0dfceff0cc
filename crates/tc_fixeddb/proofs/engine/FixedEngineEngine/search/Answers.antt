use Rattle.tc_engine.specs.Changes.{found_by}
use Rattle.tc_engine.specs.Tables.{makes_none, none_found, none_said}
use Rattle.tc_space.specs.Stores.{Only}
use Rattle.tc_fixeddb.specs.Holding.{HoldsIds}
use Rattle.tc_fixeddb.specs.Laws.{never_table}
use Rattle.tc_fixeddb.specs.Layouts.{layout_of}
use Rattle.tc_fixeddb.proofs.engine.FixedEngineEngine.search.Goals as goal

pub returns-clause-makes : goal.returns-clause-makes
returns-clause-makes g c = makes_none g.S.Space (Only 0) layout_of HoldsIds (found_by _) _ _ c.requires.sound (λ m h. none_found m _ (never_table _ _ m h.1))

pub returns-clause-says : goal.returns-clause-says
returns-clause-says g c = λ m h. none_said m _ _ (never_table _ _ m h.1)
