use Rattle.tc_engine.specs.Tables.{no_row_added}
use Rattle.tc_treedb.specs.Laws.{never_table}
use Rattle.tc_treedb.proofs.engine.TreeEngineEngine.row.Goals as goal

pub returns-clause-value : goal.returns-clause-value
returns-clause-value g c = λ m h. no_row_added m _ _ (never_table _ _ m h.1)
