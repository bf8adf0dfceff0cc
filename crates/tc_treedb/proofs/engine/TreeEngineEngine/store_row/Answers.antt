use Rattle.tc_engine.specs.Changes.{row_stored}
use Rattle.tc_engine.specs.Tables.{makes_none, no_row}
use Rattle.tc_space.specs.Stores.{Only}
use Rattle.tc_treedb.specs.Holding.{HoldsPairs}
use Rattle.tc_treedb.specs.Laws.{never_table}
use Rattle.tc_treedb.specs.Layouts.{layout_of}
use Rattle.tc_treedb.proofs.engine.TreeEngineEngine.store_row.Goals as goal

pub returns-clause-makes : goal.returns-clause-makes
returns-clause-makes g c = makes_none g.S.Space (Only 0) layout_of HoldsPairs (row_stored c.args._mode c.args._key c.args._columns) _ _ c.requires.sound (λ m h. no_row m c.args._mode c.args._key c.args._columns (never_table _ _ m h.1))
