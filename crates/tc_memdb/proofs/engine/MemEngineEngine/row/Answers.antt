use Rattle.tc_engine.specs.Tables.{no_row_added}
use Rattle.tc_memdb.specs.Holding.{never_table}
use Rattle.tc_memdb.proofs.engine.MemEngineEngine.row.Goals as goal

pub returns-clause-value : goal.returns-clause-value
returns-clause-value c = λ m h. no_row_added m _ _ (never_table _ m h.1)
